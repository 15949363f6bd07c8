use Rattle.std.proofs.Common.{◌≡◌, ◌*◌, ◌<◌, ◌≤◌, ◌^◌}
use Rattle.std.specs.Prelude.{Some}
use Rattle.turn_book.specs.Banks.{HasRegistry}
use Rattle.turn_book.specs.Views.{view_of}
use Rattle.book_rows.proofs.publishing.words_read_under_one_generation_are_the_published_ones.Given as goal

abbrev pub invariant-loop-k : goal.invariant-loop-k
invariant-loop-k g l = record {
  publisher : l.publisher.seat.table_id ≡ l.book.table.shared.table_id;
  reader : l.reader.seat.table_id ≡ l.book.table.shared.table_id;
  caller : (view_of l.publisher.seat).caller ≡ Some 1;
  registry : HasRegistry (view_of l.publisher.seat);
  last : l.last < 2 ^ 40;
}
