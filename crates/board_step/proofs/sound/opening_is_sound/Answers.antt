use Rattle.board_step.proofs.SoundOpening.{opening_is_sound}
use Rattle.board_step.proofs.sound.opening_is_sound.Goals as goal

pub returns : goal.returns
returns c = opening_is_sound
