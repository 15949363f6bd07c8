-- How a running board ends.
use Rattle.std.proofs.Common.{◌≡◌, ℕ, true, false, true≢false, List, [], length, is_some, All, Some, None, IfSome, sym, ap, ◌∙◌, subst}
use Rattle.std.specs.Prelude.{count_by, option_map, unwrap_or}
use Rattle.std.specs.declared.option.Option.{Option}
use Rattle.irq_base.specs.declared.lists.Entry.{Entry}
use Rattle.irq_base.specs.declared.shape.Shape.{Shape}
use Rattle.board_model.specs.Board.{Board}
use Rattle.board_model.specs.Published.{published, IsSoundRegistry}
use Rattle.board_raise.specs.declared.parts.Parts.{Parts}
use Rattle.board_raise.specs.declared.parts.RegistryPart.{RegistryPart}
use Rattle.board_raise.specs.BoardRig.{NamesWhatIsThere}
use Rattle.board_raise.specs.Fit.{Fits}
use Rattle.board_raise.specs.InHand.{registry_of, parts_of, chips_of}
use Rattle.board_raise.specs.OnRow.{Row}
use Rattle.board_step.specs.History.{opening_registry, opening, Leads}
use Rattle.board_step.specs.Publications.{words}
use Rattle.board_step.specs.Sound.{IsSound}
use Rattle.board_step.specs.Step.{is_publication}
use Rattle.board_step.specs.Whole.{IsWhole, board_of}
use Rattle.turn_book.specs.declared.view.Ended.{Ended}
use Rattle.turn_book.specs.declared.view.Front.{Front}
use Rattle.turn_book.specs.Ending.{EndsRight}
use Rattle.turn_book.specs.Histories.{IsPrefix, entries_of, is_in}
use Rattle.turn_book.specs.Rule.{workings}
use Rattle.part_slots.specs.declared.slot.Slot.{Slot}
use Rattle.part_slots.specs.Commits.{Seen}
use Rattle.part_slots.specs.Histories.{Stands}
use Rattle.part_slots.specs.Running.{Opens, IsStep, caller_of}
use Rattle.part_slots.specs.Slots.{slots_of}
use Rattle.part_slots.proofs.Histories.{runs_are_legal, states_stand}
use Rattle.part_board.specs.declared.closed.Closed.{Closed}
use Rattle.part_copies.specs.Gathering.{apics_in, gathered, none_but}
use Rattle.part_board.specs.Joining.{IsEnded}
use Rattle.part_copies.proofs.Boards.{AreAll, left_are, left_room, left_whole, left_fits, left_board}

some_is : {A : Type 0} (x y : A) → Some x ≡ Some y → x ≡ y
some_is x y e = cc

-- ---- the board that is left

-- the slots that a history leaves make its last board
pub record Left (shape : Shape) (v : Seen) (row : Row) (left : List Slot) (front : Front) : Type 0 where
  pub history : List Entry
  pub now : Board
  pub legal : Leads (opening shape) history now
  pub counted : front.length ≡ length history
  pub publications : now.publications ≡ count_by is_publication history
  pub seen : IsPrefix v.seen history
  pub ended : All (λ (x : Ended Entry). entries_of caller_of x.caller history ≡ x.entries) v.ended
  pub others : (c : ℕ) → is_in c v.made ≡ false → entries_of caller_of c history ≡ []
  pub room : apics_in left ≡ length row
  pub whole : IsWhole shape (parts_of (gathered left 0 (none_but row)))
  pub fits : Fits shape (parts_of (gathered left 0 (none_but row))) (chips_of (gathered left 0 (none_but row)))
  pub sound : IsSound (board_of shape (parts_of (gathered left 0 (none_but row))) front.length front.generation)
  pub board : board_of shape (parts_of (gathered left 0 (none_but row))) front.length front.generation ≡ now

pub left_right : (shape : Shape) (v : Seen) (row : Row) (left : List Slot) (front : Front) (o : Board) → length row ≡ shape.cpus → v.begin ≡ Some (opening shape) → EndsRight (workings Opens IsStep slots_of words caller_of is_publication) o v left front → Left shape v row left front
left_right shape v row left front o places begins e = record {
  history = e.history;
  now = b;
  legal = subst (λ (s : Shape). Leads (opening s) e.history b) first (runs_are_legal.leads o b e.history e.begins e.legal);
  counted = ap (λ (f : Front). f.length) e.counted;
  publications = stands.publications;
  seen = e.seen;
  ended = e.ended;
  others = e.others;
  room = ap apics_in (sym e.parts_left) ∙ left_room b ∙ sym many;
  whole = subst (λ s. IsWhole s (parts_of all_of)) shape_is (left_whole b all_of all stands.sound);
  fits = subst (λ s. Fits s (parts_of all_of) (chips_of all_of)) shape_is (left_fits b all_of all stands.sound);
  sound = subst IsSound (sym board) stands.sound;
  board = board;
}
  where
    b : Board
    b = e.now

    first : o.shape ≡ shape
    first = ap (λ (c : Board). c.shape) (some_is o (opening shape) (sym e.opened ∙ begins))

    stands : Stands o.shape e.history b
    stands = states_stand o b e.history e.begins e.legal

    shape_is : b.shape ≡ shape
    shape_is = stands.shape ∙ first

    many : length row ≡ length b.lapics
    many = places ∙ ap (λ (s : Shape). s.cpus) (sym shape_is) ∙ sym stands.sound.lapics.places

    all_of : Parts
    all_of = gathered left 0 (none_but row)

    all : AreAll all_of b
    all = subst (λ l. AreAll (gathered l 0 (none_but row)) b) e.parts_left (left_are b row many)

    board : board_of shape (parts_of all_of) front.length front.generation ≡ b
    board =
        (λ i. board_of (sym shape_is i) (parts_of all_of) ((ap (λ (f : Front). f.length) e.counted ∙ sym stands.length) i) ((ap (λ (f : Front). f.generation) e.counted ∙ sym stands.publications) i))
        ∙ left_board b all_of all stands.sound

pub ended_is : (shape : Shape) (v : Seen) (row : Row) (left : List Slot) (front : Front) (closed : Closed) → Left shape v row left front → closed.board ≡ board_of shape (parts_of (gathered left 0 (none_but row))) front.length front.generation → closed.length ≡ front.length → IsEnded shape v closed
ended_is shape v row left front closed l board many = record {
  history = l.history;
  legal = subst (Leads (opening shape) l.history) (sym last) l.legal;
  counted = many ∙ l.counted;
  publications = ap (λ (b : Board). b.publications) last ∙ l.publications;
  seen = l.seen;
  ended = l.ended;
  others = l.others;
}
  where
    last : closed.board ≡ l.now
    last = board ∙ l.board
