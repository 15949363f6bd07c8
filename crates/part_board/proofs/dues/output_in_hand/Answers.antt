use Rattle.std.proofs.Common.{◌+◌, ◌∙◌}
use Rattle.turn_book.specs.Views.{slots_of}
use Rattle.turn_copies.proofs.Lending.{lent_back}
use Rattle.part_board.proofs.dues.output_in_hand.Goals as goal

pub returns-clause-home : goal.returns-clause-home
returns-clause-home c = λ q. lent_back 3 q c.part_of-slot.result.now (slots_of c.args.pen.now.seat) c.args.pen.now.distinct c.part_of-slot.ensures.value ∙ c.requires.home q
