use Rattle.std.specs.Prelude.{◌≡◌, ℕ, is_some}
use Rattle.turn_book.specs.Histories.{entries_of}
use Rattle.turn_book.specs.Hands.{held_at, slot_at}
use Rattle.turn_book.specs.Views.{view_of, slots_of, SamePlace}
use Rattle.book_rows.specs.Counting.{caller_of}
use Rattle.book_rows.proofs.asking.add_held.Given as goal

abbrev pub invariant-loop : goal.invariant-loop
invariant-loop g l =
    (goal.iterator-loop g).can_next l.iterator' × (goal.iterator-loop g).is_finite l.iterator' × (l.pen.seat.table_id ≡ l.fn.pen.seat.table_id)
    × ((q : ℕ) → is_some (held_at q (view_of l.pen.seat).held) ≡ is_some (held_at q (view_of l.fn.pen.seat).held))
    × (slot_at l.counter (slots_of l.pen.seat) ≡ held_at l.counter (view_of l.pen.seat).held)
    × (entries_of caller_of l.caller (view_of l.pen.seat).seen ≡ entries_of caller_of l.caller (view_of l.fn.pen.seat).seen)
    × SamePlace (view_of l.fn.pen.seat) (view_of l.pen.seat)
