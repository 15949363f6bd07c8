use Rattle.std.specs.Prelude.{◌≡◌}
use Rattle.turn_book.specs.Views.{view_of, SamePlace}
use Rattle.book_rows.proofs.asking.win.Given as goal

abbrev pub invariant-loop : goal.invariant-loop
invariant-loop g l =
    (goal.iterator-loop g).can_next l.iterator' × (goal.iterator-loop g).is_finite l.iterator' × (l.pen.seat.table_id ≡ l.fn.pen.seat.table_id)
    × ((view_of l.pen.seat).held ≡ (view_of l.fn.pen.seat).held) × ((view_of l.pen.seat).seen ≡ (view_of l.fn.pen.seat).seen) × SamePlace (view_of l.fn.pen.seat) (view_of l.pen.seat)
