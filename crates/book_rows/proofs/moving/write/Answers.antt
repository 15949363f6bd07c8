use Rattle.std.proofs.Common.{true, false, ap, ◌∙◌}
use Rattle.std.specs.Prelude.{Some, is_some}
use Rattle.turn_book.specs.Hands.{slot_at}
use Rattle.turn_book.specs.Lent.{slot_lent, lent_here}
use Rattle.book_rows.proofs.moving.write.Goals as goal

pub returns-clause-value : goal.returns-clause-value
returns-clause-value c = lent_here c.args.counter c.args.value c.args.pen.now.seat.me.1 (ap is_some c.part_of.ensures.value)

pub returns-clause-slots : goal.returns-clause-slots
returns-clause-slots c q t =
    let cs = c.args.pen.now.seat.me.1 in
    slot_lent c.args.counter q c.args.value cs c.args.pen.now.distinct (ap is_some c.part_of.ensures.value) ∙ ap (λ b. elim b [ true ↦ Some c.args.value | false ↦ slot_at q cs ]) t
