use Rattle.board_raise.proofs.Steady.{sends_steadily}
use Rattle.board_raise.proofs.sends_steadily.Goals as goal

pub returns : goal.returns
returns c = sends_steadily
