use Rattle.board_model.proofs.Words.{words_tell}
use Rattle.board_model.proofs.words_tell_the_routing.Goals as goal

pub returns : goal.returns
returns c = words_tell
