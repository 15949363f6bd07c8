use Rattle.std.specs.Prelude.{◌≡◌, []}
use Rattle.turn_book.specs.Views.{view_of}
use Rattle.book_rows.proofs.threads.count_up.Given as goal

abbrev pub invariant-loop-k : goal.invariant-loop-k
invariant-loop-k g l =
    (l.pen.seat.table_id ≡ l.fn.pen.seat.table_id) × ((view_of l.pen.seat).held ≡ []) × ((view_of l.pen.seat).caller ≡ (view_of l.fn.pen.seat).caller) × ((view_of l.pen.seat).is_desk ≡ (view_of l.fn.pen.seat).is_desk)
