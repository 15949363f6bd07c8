use Rattle.board_raise.proofs.PowerOn.{ioapic_at_first}
use Rattle.board_raise.proofs.parts.IoPart.power_on.Goals as goal

pub returns-clause-fits : goal.returns-clause-fits
returns-clause-fits c = ioapic_at_first c.power_on.result c.none.result c.power_on.ensures c.none.ensures
