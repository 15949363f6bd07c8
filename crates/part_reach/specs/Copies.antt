-- Parts in hand of an attempt: copies of those whose turns it has won (this board's own rule).
use Rattle.std.specs.Prelude.{◌≡◌, ℕ, true, false, List, length, is_some}
use Rattle.irq_base.specs.declared.shape.Part.{Part}
use Rattle.board_model.specs.Board.{Board}
use Rattle.board_model.specs.Hand.{part_in, all_parts}
use Rattle.board_raise.specs.declared.parts.Parts.{Parts}
use Rattle.board_raise.specs.Fit.{PinsFit}
use Rattle.board_raise.specs.InHand.{parts_of, chips_of}
use Rattle.turn_book.specs.Histories.{is_in}
use Rattle.part_slots.specs.Slots.{place}

-- just the parts of these places are in hand, as the board has them, with the pins that are held
pub record AreCopies (b : Board) (places : List ℕ) (q : Parts) : Type 0 where
  pub copied : (p : Part) → is_in (place p) places ≡ true → part_in (parts_of q) p ≡ part_in (all_parts b) p
  pub none : (p : Part) → is_in (place p) places ≡ false → is_some (part_in (parts_of q) p) ≡ false
  pub pins : PinsFit (chips_of q)
  pub row : length q.lapics ≡ length b.lapics
