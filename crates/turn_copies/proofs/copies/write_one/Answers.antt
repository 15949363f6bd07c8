use Rattle.std.proofs.Common.{ap, sym, ◌∙◌, is_some}
use Rattle.turn_book.specs.Views.{slots_of}
use Rattle.turn_copies.proofs.Lending.{lent_written, lent_other, apart_else}
use Rattle.turn_copies.proofs.copies.write_one.Goals as goal

pub returns-clause-slots : goal.returns-clause-slots
returns-clause-slots g c = λ q. lent_written g.C.Copies.written c.args.copies.now c.args.part q c.write_back.new.kept c.part_of-slot.result.now (slots_of c.args.pen.now.seat) c.args.pen.now.distinct c.part_of-slot.ensures.value c.write_back.ensures

pub returns-clause-fits : goal.returns-clause-fits
returns-clause-fits g c = λ ps out fit q x within there.
    fit q x within (sym (lent_other c.args.part q c.write_back.new.kept (slots_of c.args.pen.now.seat) c.args.pen.now.distinct (ap is_some c.part_of-slot.ensures.value) (apart_else c.args.part q ps out within)) ∙ there)
