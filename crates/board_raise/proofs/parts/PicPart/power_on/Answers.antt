use Rattle.board_raise.proofs.PowerOn.{pair_at_first}
use Rattle.board_raise.proofs.parts.PicPart.power_on.Goals as goal

pub returns-clause-fits : goal.returns-clause-fits
returns-clause-fits c = pair_at_first c.power_on.result c.none.result c.power_on.ensures c.none.ensures
