use Rattle.std.proofs.Common.{sym, ap, subst, ◌∙◌}
use Rattle.source_levels.specs.Holds.{Holds}
use Rattle.board_raise.specs.declared.parts.IoPart as code
use Rattle.board_raise.specs.Fit.{IoapicFits}
use Rattle.board_raise.specs.InHand.{ioapic_of}
use Rattle.board_calls.specs.Moved.{without_pin}
use Rattle.board_calls.proofs.Holding.{kept_at_first, keeps_pin, drops_pin}
use Rattle.board_calls.proofs.reroute.forget_moved_ioapics.Goals as goal
use Rattle.board_calls.proofs.reroute.forget_moved_ioapics.Goals.{then-not-is_same_gsi, else-not-is_same_gsi}

pub loop-pin-init : goal.loop-pin-init
loop-pin-init c =
    (ap (λ (holds : Holds). record (ioapic_of c.args.part.now) { holds = holds }) (sym (kept_at_first c.args.before.now c.args.after.now c.args.part.now.levels)), λ fits. fits)

pub loop-pin-preserved : goal.loop-pin-preserved
loop-pin-preserved c =
    let before = c.args.before.now in
    let after = c.args.after.now in
    let pin = c.loop-pin.pin in
    let start = c.args.part.now in
    let so_far = c.loop-pin.invariant in
    elim c.if-not-is_same_gsi.branch [
      | then-not-is_same_gsi w ↦ (
        ap ioapic_of w.part-is
            ∙ w.forget_ioapic.ensures.after
            ∙ (λ i. record (so_far.0 i) { holds = without_pin (so_far.0 i).holds pin })
            ∙ ap (λ (holds : Holds). record (ioapic_of start) { holds = holds }) (drops_pin before after start.levels pin (sym c.is_same_gsi.ensures ∙ w.if-not-is_same_gsi.true)),
        λ fits. subst (λ (p : code.IoPart). IoapicFits p.ioapic p.levels) (sym w.part-is) (w.forget_ioapic.ensures.fits (so_far.1 fits)),
      )
      | else-not-is_same_gsi w ↦ (
        ap ioapic_of w.part-is
            ∙ so_far.0
            ∙ ap (λ (holds : Holds). record (ioapic_of start) { holds = holds }) (keeps_pin before after start.levels pin (sym c.is_same_gsi.ensures ∙ w.if-not-is_same_gsi.false)),
        λ fits. subst (λ (p : code.IoPart). IoapicFits p.ioapic p.levels) (sym w.part-is) (so_far.1 fits),
      )
    ]
