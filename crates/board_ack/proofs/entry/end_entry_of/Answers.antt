use Rattle.std.proofs.Common.{◌≡◌, None, if◌then◌else◌, refl, sym, ap, ◌∙◌}
use Rattle.ioapic_82093aa.specs.Pins.{pin_acked, resend_of}
use Rattle.board_model.specs.Chips as chips
use Rattle.board_model.specs.Chips.{with_ioapic}
use Rattle.board_raise.specs.InHand.{ioapic_of}
use Rattle.board_ack.proofs.Stepping.{sent_by}
use Rattle.board_ack.proofs.entry.end_entry_of.Goals as goal

pub returns-then-not-is_level-clause-after : goal.returns-then-not-is_level-clause-after
returns-then-not-is_level-clause-after c =
    let was = ioapic_of c.args.part.now in
    sym (ap (λ t. if t then with_ioapic was (pin_acked (chips.ioapic_of was) c.args.pin) else was) (sym c.is_level.ensures ∙ c.if-not-is_level.true))

pub returns-then-not-is_level-clause-message : goal.returns-then-not-is_level-clause-message
returns-then-not-is_level-clause-message c =
    let was = ioapic_of c.args.part.now in
    sym (ap (λ t. if t then resend_of (pin_acked (chips.ioapic_of was) c.args.pin) c.args.pin else None) (sym c.is_level.ensures ∙ c.if-not-is_level.true))

pub returns-clause-after : goal.returns-clause-after
returns-clause-after c =
    let was = ioapic_of c.args.part.now in
    c.acked.ensures.after ∙ sym (ap (λ t. if t then with_ioapic was (pin_acked (chips.ioapic_of was) c.args.pin) else was) (sym c.is_level.ensures ∙ c.if-not-is_level.false))

pub returns-clause-message : goal.returns-clause-message
returns-clause-message c =
    let was = ioapic_of c.args.part.now in
    c.resend.ensures ∙ sent_by c.args.pin was c.acked.new.self c.acked.ensures.after c.acked.ensures.fits
    ∙ sym (ap (λ t. if t then resend_of (pin_acked (chips.ioapic_of was) c.args.pin) c.args.pin else None) (sym c.is_level.ensures ∙ c.if-not-is_level.false))
