use Rattle.std.proofs.Common.{◌≡◌}
use Rattle.std.specs.Prelude.{Some}
use Rattle.turn_book.specs.Banks.{HasRegistry}
use Rattle.turn_book.specs.Views.{view_of}
use Rattle.book_rows.proofs.readers.post_up.Given as goal

abbrev pub invariant-loop-k : goal.invariant-loop-k
invariant-loop-k l = record {
  book : l.pen.seat.table_id ≡ l.book.table.shared.table_id;
  caller : (view_of l.pen.seat).caller ≡ Some l.caller;
  registry : HasRegistry (view_of l.pen.seat);
}
