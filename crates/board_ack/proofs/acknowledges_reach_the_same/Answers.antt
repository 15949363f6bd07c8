use Rattle.board_ack.proofs.ReachAcknowledge.{acknowledges_reach_the_same}
use Rattle.board_ack.proofs.acknowledges_reach_the_same.Goals as goal

pub returns : goal.returns
returns c = acknowledges_reach_the_same
