use Rattle.board_step.proofs.CountingAnswers.{steps_tell_few}
use Rattle.board_step.proofs.laws.steps_tell_few.Goals as goal

pub returns : goal.returns
returns c = steps_tell_few
