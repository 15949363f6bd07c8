use Rattle.std.proofs.Common.{sym, ap, ◌∙◌, is_some}
use Rattle.turn_book.specs.Lent.{lent_here}
use Rattle.write_ring.proofs.handling.copy_from_hand.Goals as goal

pub returns-clause-slot : goal.returns-clause-slot
returns-clause-slot c =
    let value = c.part_of.ensures.value in
    lent_here 0 c.part_of.result.now c.args.pen.now.seat.me.1 (ap is_some value) ∙ sym value
