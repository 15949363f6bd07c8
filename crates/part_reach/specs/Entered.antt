-- The entry of a call that was made on copies of the parts in hand (this board's own rule).
use Rattle.std.specs.Prelude.{◌≡◌, ℕ, true, List, length, is_some, Some}
use Rattle.irq_base.specs.declared.lists.Entry.{Entry}
use Rattle.board_model.specs.Board.{Board}
use Rattle.board_model.specs.Hand.{part_in}
use Rattle.board_model.specs.Agreement.{Agrees}
use Rattle.board_raise.specs.declared.parts.Parts.{Parts}
use Rattle.board_raise.specs.Fit.{PinsFit}
use Rattle.board_raise.specs.InHand.{parts_of, chips_of}
use Rattle.turn_book.specs.Histories.{is_in}
use Rattle.part_slots.specs.Commits.{Seen}
use Rattle.part_slots.specs.Running.{IsStep, reach_at}
use Rattle.part_slots.specs.Slots.{part_at}

-- an entry is a step from the board that the seat's list leaves; what it reaches is at these places, whose parts are in hand as
-- the board after it has them
pub record IsMadeOn (v : Seen) (e : Entry) (places : List ℕ) (q : Parts) : Type 0 where
  pub before : Board
  pub after : Board
  pub now : v.now ≡ Some before
  pub step : IsStep before e after
  pub reached : (k : ℕ) → reach_at before e k ≡ true → is_in k places ≡ true
  pub in_hand : (k : ℕ) → is_in k places ≡ true → is_some (part_in (parts_of q) (part_at k)) ≡ true
  pub agrees : Agrees (parts_of q) after
  pub pins : PinsFit (chips_of q)
  pub row : length q.lapics ≡ length before.lapics
