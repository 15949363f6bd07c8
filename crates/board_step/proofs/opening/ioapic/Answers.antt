use Rattle.board_step.proofs.OpeningParts.{opens_ioapic}
use Rattle.board_step.proofs.opening.ioapic.Goals as goal

pub returns : goal.returns
returns c = opens_ioapic c.power_on.result c.power_on.ensures.chip c.power_on.ensures.holds c.power_on.ensures.fits
