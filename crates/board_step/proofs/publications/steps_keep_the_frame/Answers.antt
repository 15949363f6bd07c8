use Rattle.board_step.proofs.Publishing.{steps_keep_the_frame}
use Rattle.board_step.proofs.publications.steps_keep_the_frame.Goals as goal

pub returns : goal.returns
returns c = steps_keep_the_frame
