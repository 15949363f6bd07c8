use Rattle.std.proofs.Common.{sym, subst}
use Rattle.source_levels.specs.Holds.{Holds}
use Rattle.ioapic_82093aa.specs.declared.ioapic.Ioapic.{Ioapic}
use Rattle.ioapic_82093aa.specs.Pins.{lowered}
use Rattle.board_raise.specs.Fit.{IoapicFits}
use Rattle.board_calls.proofs.Holding.{ioapic_forgets}
use Rattle.board_calls.proofs.reroute.forget_ioapic.Goals as goal

pub returns-clause-fits : goal.returns-clause-fits
returns-clause-fits c = λ fits.
    subst (λ (chip : Ioapic). IoapicFits chip c.forget.new.self) (sym c.lower.ensures)
    (subst (λ (levels : Holds). IoapicFits (lowered c.args.part.now.ioapic c.args.pin) levels) (sym c.forget.ensures) (ioapic_forgets c.args.part.now.ioapic c.args.part.now.levels c.args.pin fits))
