use Rattle.std.proofs.Common.{◌≡◌}
use Rattle.book_rows.proofs.readers.count_wrong.Given as goal

abbrev pub invariant-loop : goal.invariant-loop
invariant-loop l = l.pen.seat.table_id ≡ l.book.table.shared.table_id
