use Rattle.board_model.proofs.OnParts.{lacking_exactly}
use Rattle.board_model.proofs.lacking_exactly.Goals as goal

pub returns : goal.returns
returns g c = lacking_exactly
