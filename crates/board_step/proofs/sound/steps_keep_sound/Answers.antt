use Rattle.board_step.proofs.SoundSteps.{steps_keep_sound}
use Rattle.board_step.proofs.sound.steps_keep_sound.Goals as goal

pub returns : goal.returns
returns c = steps_keep_sound
