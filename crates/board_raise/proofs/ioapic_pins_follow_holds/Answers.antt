use Rattle.board_raise.proofs.Pins.{ioapic_pins_follow_holds}
use Rattle.board_raise.proofs.ioapic_pins_follow_holds.Goals as goal

pub returns : goal.returns
returns c = ioapic_pins_follow_holds
