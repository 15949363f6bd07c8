use Rattle.std.proofs.Common.{◌≡◌, true, false, get_or, is_some}
use Rattle.route_table.specs.Rows.{targets_of}
use Rattle.route_table.specs.Words.{targets_word}
use Rattle.turn_book.specs.Banks.{IsSpareBank}
use Rattle.turn_book.specs.Views.{view_of, slots_of}
use Rattle.route_bank.specs.Drafting.{HasFrom, SameBelow, ChangesDrafts}
use Rattle.route_bank.proofs.publishing.draft_gsis.Given as goal

abbrev pub invariant-loop-gsi : goal.invariant-loop-gsi
invariant-loop-gsi g l = record {
  book : l.pen.seat.table_id ≡ l.book.table.shared.table_id;
  knows : is_some (view_of l.pen.seat).knows ≡ true;
  bank : IsSpareBank l.book.table.shared.table_id.slots l.book.width (view_of l.pen.seat) l.bank.begin;
  drafted : HasFrom 0 l.gsi (λ gsi. targets_word (targets_of l.table gsi) (get_or l.marks gsi false)) (view_of l.pen.seat).drafts;
  below : SameBelow 0 (view_of l.fn.pen.seat).drafts (view_of l.pen.seat).drafts;
  rest : ChangesDrafts (view_of l.fn.pen.seat) (view_of l.pen.seat);
  slots : slots_of l.pen.seat ≡ slots_of l.fn.pen.seat;
}
