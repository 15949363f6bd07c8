use Rattle.std.proofs.Common.{◌≡◌, true, is_some}
use Rattle.std.specs.Prelude.{option_map}
use Rattle.irqfd_set.specs.Rows.{of_trigger}
use Rattle.board_model.specs.Routing.{trigger_of}
use Rattle.board_model.specs.Published.{trigger_word}
use Rattle.turn_book.specs.Banks.{IsSpareBank}
use Rattle.turn_book.specs.Views.{view_of, slots_of}
use Rattle.route_bank.specs.Drafting.{HasFrom, SameBelow, ChangesDrafts}
use Rattle.route_bank.proofs.publishing.draft_triggers.Given as goal

abbrev pub invariant-loop-trigger : goal.invariant-loop-trigger
invariant-loop-trigger g l = record {
  book : l.pen.seat.table_id ≡ l.book.table.shared.table_id;
  knows : is_some (view_of l.pen.seat).knows ≡ true;
  bank : IsSpareBank l.book.table.shared.table_id.slots l.book.width (view_of l.pen.seat) l.bank.begin;
  drafted : HasFrom 4096 l.trigger (λ trigger. trigger_word (option_map trigger_of (of_trigger l.irqfds trigger))) (view_of l.pen.seat).drafts;
  below : SameBelow 4096 (view_of l.fn.pen.seat).drafts (view_of l.pen.seat).drafts;
  rest : ChangesDrafts (view_of l.fn.pen.seat) (view_of l.pen.seat);
  slots : slots_of l.pen.seat ≡ slots_of l.fn.pen.seat;
}
