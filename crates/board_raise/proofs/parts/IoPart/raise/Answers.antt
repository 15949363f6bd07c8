use Rattle.board_raise.specs.InHand.{ioapic_of}
use Rattle.board_raise.specs.Signal.{ioapic_raised}
use Rattle.board_raise.proofs.PinsInHand.{ioapic_fits, ioapic_rises}
use Rattle.board_raise.proofs.parts.IoPart.raise.Goals as goal

pub returns-clause-fits : goal.returns-clause-fits
returns-clause-fits c =
    ioapic_fits (ioapic_raised (ioapic_of c.args.self.now) c.args.pin c.args.source) c.raise-2.new.self c.raise.new.self
    (ioapic_rises c.args.self.now c.requires.fits c.args.pin c.args.source c.requires.pin c.raise-2.new.self c.raise-2.ensures.after) c.raise.ensures
