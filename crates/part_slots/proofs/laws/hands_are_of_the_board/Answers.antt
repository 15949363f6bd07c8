use Rattle.part_slots.proofs.Commits.{hands_are_of_the_board}
use Rattle.part_slots.proofs.laws.hands_are_of_the_board.Goals as goal

pub returns : goal.returns
returns c = hands_are_of_the_board
