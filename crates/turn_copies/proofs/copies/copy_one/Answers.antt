use Rattle.std.proofs.Common.{◌∙◌}
use Rattle.turn_book.specs.Views.{slots_of}
use Rattle.turn_copies.proofs.Lending.{lent_back}
use Rattle.turn_copies.proofs.copies.copy_one.Goals as goal

pub returns-clause-home : goal.returns-clause-home
returns-clause-home g c = λ q. lent_back c.args.part q c.part_of-slot.result.now (slots_of c.args.pen.now.seat) c.args.pen.now.distinct c.part_of-slot.ensures.value ∙ c.requires.home q
