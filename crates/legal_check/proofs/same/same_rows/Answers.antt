use Rattle.std.proofs.Common.{[], ◌∷◌, ◌++◌, IsTrue, sym, ◌∙◌, arith}
use Rattle.board_step.proofs.Listed.{take_there}
use Rattle.legal_check.proofs.same.same_rows.Goals as goal

pub loop-k-preserved : goal.loop-k-preserved
loop-k-preserved c =
    let k = c.loop-k.k in
    let off = c.if-not-same_row.false in
    let same : IsTrue c.same_row.result = grind arith in
    take_there c.args.rows.now k c.at.result.now c.at.ensures
    ∙ (λ i. c.loop-k.invariant i ++ c.same_row.ensures.0 same i ∷ [])
    ∙ sym (take_there c.args.other.now k c.at-in-loop-k.result.now c.at-in-loop-k.ensures)
