use Rattle.board_step.proofs.OpeningParts.{opens_pic}
use Rattle.board_step.proofs.opening.pic.Goals as goal

pub returns : goal.returns
returns c = opens_pic c.power_on.result c.power_on.ensures.pair c.power_on.ensures.holds c.power_on.ensures.fits
