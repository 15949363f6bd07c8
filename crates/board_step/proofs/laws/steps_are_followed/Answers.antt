use Rattle.board_step.proofs.Following.{steps_are_followed}
use Rattle.board_step.proofs.laws.steps_are_followed.Goals as goal

pub returns : goal.returns
returns c = steps_are_followed
