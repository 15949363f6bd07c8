use Rattle.board_step.proofs.Refusing.{refuses_first}
use Rattle.board_step.proofs.laws.refuses_first.Goals as goal

pub returns : goal.returns
returns c = refuses_first
