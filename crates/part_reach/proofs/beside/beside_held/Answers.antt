use Rattle.std.proofs.Common.{sym, ap, ◌∙◌}
use Rattle.turn_book.specs.Hands.{held_at}
use Rattle.turn_book.specs.Views.{view_of, slots_of}
use Rattle.turn_copies.proofs.Lending.{lent_back}
use Rattle.part_reach.proofs.Besides.{told_by}
use Rattle.part_reach.proofs.beside.beside_held.Goals as goal

pub returns-clause-home : goal.returns-clause-home
returns-clause-home c = λ q. lent_back c.args.turn q c.part_of-slot.result.now (slots_of c.args.pen.now.seat) c.args.pen.now.distinct c.part_of-slot.ensures.value ∙ c.requires.home q

pub returns-clause-told : goal.returns-clause-told
returns-clause-told c =
    told_by (view_of c.args.pen.now.seat) c.args.n c.args.call.now c.part_of-slot.result.now c.beside_slot.result c.beside_slot.ensures
    (ap (λ t. held_at t (view_of c.args.pen.now.seat).held) (sym c.requires.turn) ∙ sym (c.requires.home c.args.turn) ∙ c.part_of-slot.ensures.value)
