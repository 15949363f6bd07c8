use Rattle.board_step.proofs.ReachDecides.{depends_on_reach}
use Rattle.board_step.proofs.reach.depends_on_reach.Goals as goal

pub returns : goal.returns
returns c = depends_on_reach
