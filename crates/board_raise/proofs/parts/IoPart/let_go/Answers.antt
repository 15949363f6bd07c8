use Rattle.std.proofs.Common.{sym, ap, ◌∙◌}
use Rattle.source_levels.specs.Holds.{is_high}
use Rattle.board_raise.specs.InHand.{ioapic_of}
use Rattle.board_raise.specs.Signal.{ioapic_let_go}
use Rattle.board_raise.proofs.PinsInHand.{ioapic_fits, ioapic_falls, ioapic_stays}
use Rattle.board_raise.proofs.parts.IoPart.let_go.Goals as goal

pub returns-then-not-high-clause-fits : goal.returns-then-not-high-clause-fits
returns-then-not-high-clause-fits c =
    ioapic_fits (ioapic_let_go (ioapic_of c.args.self.now) c.args.pin c.args.source) c.lower-then-not-high.new.self c.lower.new.self
    (ioapic_falls c.args.self.now c.requires.fits c.args.pin c.args.source c.requires.pin c.lower-then-not-high.new.self (sym (ap (λ s. is_high s c.args.pin) c.lower.ensures) ∙ sym c.high.ensures.value ∙ c.if-not-high.true) c.lower-then-not-high.ensures)
    c.lower.ensures

pub returns-else-not-high-clause-fits : goal.returns-else-not-high-clause-fits
returns-else-not-high-clause-fits c =
    ioapic_fits (ioapic_let_go (ioapic_of c.args.self.now) c.args.pin c.args.source) c.args.self.now.ioapic c.lower.new.self
    (ioapic_stays c.args.self.now c.requires.fits c.args.pin c.args.source c.requires.pin (sym (ap (λ s. is_high s c.args.pin) c.lower.ensures) ∙ sym c.high.ensures.value ∙ c.if-not-high.false)) c.lower.ensures
