use Rattle.board_step.proofs.Basics.{◌≡◌, ◌+◌, ◌-◌, ◌++◌, length, length-append, append_assoc, sym, ap, ◌∙◌, arith, wish_shown, wish_replied, wishes_told}
use Rattle.board_step.proofs.Listed.{drop_here}
use Rattle.board_step.proofs.Wished.{event_few}
use Rattle.board_step.proofs.choices.wishes_shown.Goals as goal

pub loop-k-preserved : goal.loop-k-preserved
loop-k-preserved c =
    let k = c.loop-k.k - 1 in
    let event = c.at.result.now in
    let next : c.loop-k.k ≡ k + 1 = omega (c.loop-k-test.true, arith) in
    record {
      within = omega (c.loop-k.invariant.within, arith);
      room = omega ((event_few event), (ap (λ ws. length ws) c.add_event.ensures ∙ length-append (wish_shown event) c.loop-k.wishes), next, c.loop-k.invariant.room, arith);
      shown =
          c.add_event.ensures
          ∙ ap (λ ws. wish_shown event ++ ws) c.loop-k.invariant.shown
          ∙ sym (append_assoc (wish_shown event) _ _)
          ∙ ap (λ xs. wishes_told xs ++ wish_replied c.args.reply.now) (sym (drop_here c.args.events.now k c.loop-k.k event next c.at.ensures));
    }
