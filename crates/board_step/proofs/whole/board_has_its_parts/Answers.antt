use Rattle.board_step.proofs.WholeParts.{board_has_its_parts}
use Rattle.board_step.proofs.whole.board_has_its_parts.Goals as goal

pub returns : goal.returns
returns c = board_has_its_parts
