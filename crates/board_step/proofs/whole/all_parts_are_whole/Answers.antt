use Rattle.board_step.proofs.WholeParts.{all_parts_are_whole}
use Rattle.board_step.proofs.whole.all_parts_are_whole.Goals as goal

pub returns : goal.returns
returns c = all_parts_are_whole
