use Rattle.std.proofs.Common.{◌≡◌, ◌+◌, length, sym, ap, ◌∙◌}
use Rattle.board_raise.specs.OnRow.{apic_in, accepted_at, accepted_by}
use Rattle.board_raise.specs.RowSteps.{numbers_between, answer_at, with_answer, reached_after}
use Rattle.board_raise.proofs.Between.{length-accepted, accepted-taken, accepted-passed, reached-taken, reached-passed, accepted-none, reached-none}
use Rattle.board_raise.proofs.sending.accept_each.Goals as goal
use Rattle.board_raise.proofs.sending.accept_each.Goals.{then-has, else-has}

pub loop-n-preserved : goal.loop-n-preserved
loop-n-preserved c =
    let message = c.args.message.now in
    let takers = c.args.takers.now in
    let n = c.loop-n.n in
    let end = c.args.reach.end in
    let later = numbers_between (n + 1) end in
    elim c.if-has.branch [
      | then-has w ↦
          let row : c.if-has.row ≡ accepted_at n (apic_in c.loop-n.row n) message c.loop-n.row = w.row-is ∙ w.accept_at.ensures.after in
          let reached : c.if-has.reached ≡ with_answer c.loop-n.reached n (answer_at (apic_in c.loop-n.row n) message) =
          w.reached-is ∙ w.add.ensures ∙ ap (λ a. with_answer c.loop-n.reached n a) w.accept_at.ensures.answer in
          let taken = sym c.has.ensures ∙ w.if-has.true in
          record {
            places = ap (λ r. length r) row ∙ length-accepted n (apic_in c.loop-n.row n) message c.loop-n.row ∙ c.loop-n.invariant.places;
            row = ap (λ r. accepted_by message takers later r) row ∙ sym (accepted-taken message takers n end c.loop-n-test.true c.loop-n.row taken) ∙ c.loop-n.invariant.row;
            reached =
                ap (λ r. reached_after message takers later r c.if-has.reached) row
                ∙ ap (λ s. reached_after message takers later (accepted_at n (apic_in c.loop-n.row n) message c.loop-n.row) s) reached
                ∙ sym (reached-taken message takers n end c.loop-n-test.true c.loop-n.row c.loop-n.reached taken)
                ∙ c.loop-n.invariant.reached;
          }
      | else-has w ↦
          let passed = sym c.has.ensures ∙ w.if-has.false in
          record {
            places = ap (λ r. length r) w.row-is ∙ c.loop-n.invariant.places;
            row = ap (λ r. accepted_by message takers later r) w.row-is ∙ sym (accepted-passed message takers n end c.loop-n-test.true c.loop-n.row passed) ∙ c.loop-n.invariant.row;
            reached =
                ap (λ r. reached_after message takers later r c.if-has.reached) w.row-is
                ∙ ap (λ s. reached_after message takers later c.loop-n.row s) w.reached-is
                ∙ sym (reached-passed message takers n end c.loop-n-test.true c.loop-n.row c.loop-n.reached passed)
                ∙ c.loop-n.invariant.reached;
          }
    ]

pub returns-clause-reached : goal.returns-clause-reached
returns-clause-reached c = sym (reached-none c.args.message.now c.args.takers.now c.loop-n.n c.args.reach.end c.loop-n.row c.loop-n.reached c.loop-n-test.false) ∙ c.loop-n.invariant.reached

pub returns-clause-row : goal.returns-clause-row
returns-clause-row c = sym (accepted-none c.args.message.now c.args.takers.now c.loop-n.n c.args.reach.end c.loop-n.row c.loop-n-test.false) ∙ c.loop-n.invariant.row
