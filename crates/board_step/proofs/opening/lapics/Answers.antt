use Rattle.board_step.proofs.Basics.{◌-◌, ◌<◌, length, slice_set, Some, sym, ap, ◌∙◌, subst, arith, power_on}
use Rattle.board_step.proofs.OpeningParts.{row_next, length-opening_row}
use Rattle.board_step.proofs.opening.lapics.Goals as goal

pub put-requires : goal.put-requires
put-requires c =
    subst (λ row. c.loop-n.n < length row) (sym c.loop-n.invariant) (omega (arith, (length-opening_row c.loop-n.n (c.args.cpus - c.loop-n.n)), c.loop-n-test.true))

pub loop-n-preserved : goal.loop-n-preserved
loop-n-preserved c =
    c.put.ensures.after
    ∙ ap (λ a. slice_set c.loop-n.row c.loop-n.n (Some a)) c.power_on.ensures
    ∙ ap (λ row. slice_set row c.loop-n.n (Some (power_on c.loop-n.n))) c.loop-n.invariant
    ∙ row_next c.loop-n.n c.args.cpus c.loop-n-test.true
