use Rattle.std.proofs.Common.{◌≡◌, true, is_some}
use Rattle.irq_base.specs.declared.event.Pin.TheVariants.{Pic}
use Rattle.route_table.specs.Pins.{gsi_of}
use Rattle.board_model.specs.Published.{pin_word}
use Rattle.turn_book.specs.Banks.{IsSpareBank}
use Rattle.turn_book.specs.Views.{view_of, slots_of}
use Rattle.route_bank.specs.Drafting.{HasFrom, SameBelow, ChangesDrafts}
use Rattle.route_bank.proofs.publishing.draft_pics.Given as goal

abbrev pub invariant-loop-number : goal.invariant-loop-number
invariant-loop-number g l = record {
  book : l.pen.seat.table_id ≡ l.book.table.shared.table_id;
  knows : is_some (view_of l.pen.seat).knows ≡ true;
  bank : IsSpareBank l.book.table.shared.table_id.slots l.book.width (view_of l.pen.seat) l.bank.begin;
  drafted : HasFrom 4352 l.number (λ number. pin_word (gsi_of l.table (Pic number))) (view_of l.pen.seat).drafts;
  below : SameBelow 4352 (view_of l.fn.pen.seat).drafts (view_of l.pen.seat).drafts;
  rest : ChangesDrafts (view_of l.fn.pen.seat) (view_of l.pen.seat);
  slots : slots_of l.pen.seat ≡ slots_of l.fn.pen.seat;
}
