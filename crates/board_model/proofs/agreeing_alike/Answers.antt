use Rattle.board_model.proofs.Alike.{agreeing_alike}
use Rattle.board_model.proofs.agreeing_alike.Goals as goal

pub returns : goal.returns
returns g c = agreeing_alike
