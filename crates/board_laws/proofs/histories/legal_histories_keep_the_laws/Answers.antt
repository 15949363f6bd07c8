use Rattle.board_laws.proofs.Lawful.{legal_histories_keep_the_laws}
use Rattle.board_laws.proofs.histories.legal_histories_keep_the_laws.Goals as goal

pub returns : goal.returns
returns c = legal_histories_keep_the_laws
