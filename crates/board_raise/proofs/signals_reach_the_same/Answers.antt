use Rattle.board_raise.proofs.SignalReach.{signals_reach_the_same}
use Rattle.board_raise.proofs.signals_reach_the_same.Goals as goal

pub returns : goal.returns
returns c = signals_reach_the_same
