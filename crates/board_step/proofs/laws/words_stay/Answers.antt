use Rattle.board_step.proofs.WordsStay.{words_stay}
use Rattle.board_step.proofs.laws.words_stay.Goals as goal

pub returns : goal.returns
returns c = words_stay
