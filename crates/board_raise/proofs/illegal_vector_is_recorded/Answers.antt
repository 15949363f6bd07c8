use Rattle.board_raise.proofs.Illegal.{illegal_vector_is_recorded}
use Rattle.board_raise.proofs.illegal_vector_is_recorded.Goals as goal

pub returns : goal.returns
returns c = illegal_vector_is_recorded
