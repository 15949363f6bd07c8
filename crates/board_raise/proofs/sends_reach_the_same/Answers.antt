use Rattle.board_raise.proofs.Reaching.{sends_reach_the_same}
use Rattle.board_raise.proofs.sends_reach_the_same.Goals as goal

pub returns : goal.returns
returns c = sends_reach_the_same
