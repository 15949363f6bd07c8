use Rattle.board_step.proofs.Basics.{[], ◌∷◌, ◌++◌, sym, ◌∙◌, arith}
use Rattle.board_step.proofs.Listed.{take_more, take_there}
use Rattle.board_step.proofs.same.same_events.Goals as goal

pub loop-k-preserved : goal.loop-k-preserved
loop-k-preserved c =
    let k = c.loop-k.k in
    let off = c.if-not-same_event.false in
    take_more c.args.events.now k c.index-events-k.result c.loop-k-test.true (sym c.index-events-k.is)
    ∙ (λ i. c.loop-k.invariant i ++ c.same_event.ensures.0 (grind arith) i ∷ [])
    ∙ sym (take_there c.args.others.now k c.at.result.now c.at.ensures)
