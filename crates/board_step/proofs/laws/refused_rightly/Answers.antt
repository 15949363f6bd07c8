use Rattle.board_step.proofs.Refusing.{refused_rightly}
use Rattle.board_step.proofs.laws.refused_rightly.Goals as goal

pub returns : goal.returns
returns c = refused_rightly
