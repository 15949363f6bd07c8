use Rattle.board_step.proofs.ReachDecides.{stays_outside_reach}
use Rattle.board_step.proofs.reach.stays_outside_reach.Goals as goal

pub returns : goal.returns
returns c = stays_outside_reach
