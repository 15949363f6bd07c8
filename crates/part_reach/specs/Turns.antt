-- Whose turns an attempt takes: those of parts that the call reaches (this board's own rule).
use Rattle.std.specs.Prelude.{◌≡◌, ℕ, true, List, ◌++◌, take, All, Ok, Err}
use Rattle.irq_base.specs.declared.call.Call.{Call}
use Rattle.irq_base.specs.declared.call.Caller.{Caller}
use Rattle.irq_base.specs.declared.lists.Entry.{Entry}
use Rattle.irq_base.specs.declared.shape.Part.{Part}
use Rattle.irq_base.specs.declared.shape.Shape.{Shape}
use Rattle.board_model.specs.Board.{Board}
use Rattle.board_step.specs.History.{opening, Leads}
use Rattle.board_step.specs.Reach.{reach}
use Rattle.turn_book.specs.Histories.{IsPrefix}
use Rattle.part_slots.specs.Slots.{part_at}
use Rattle.part_attempt.specs.declared.not_now.NotNow.TheVariants as reasons
use Rattle.part_attempt.specs.Attempts.{Answer}

-- the part is in the call's reach on the board that these entries leave
pub record IsReachedAfter (shape : Shape) (caller : Caller) (call : Call) (now : List Entry) (part : Part) : Type 0 where
  pub board : Board
  pub after : Leads (opening shape) now board
  pub reached : reach board caller call part ≡ true

-- the part of that place is in the call's reach after a list that begins with the first, and with which the second begins
pub record IsReachedBetween (shape : Shape) (caller : Caller) (call : Call) (first last : List Entry) (turn : ℕ) : Type 0 where
  pub list : List Entry
  pub from : IsPrefix first list
  pub to : IsPrefix list last
  pub within : IsReachedAfter shape caller call list (part_at turn)

-- the turns before are those after but for some, each of a part that the call reaches after a list between the two
pub record AddsReached (shape : Shape) (caller : Caller) (call : Call) (first last : List Entry) (before after : List ℕ) : Type 0 where
  pub turns : List ℕ
  pub grew : after ≡ before ++ turns
  pub reached : All (IsReachedBetween shape caller call first last) turns

-- what a pass has seen but for the call's own entry, where it has one
abbrev pub seen_before_own : Answer → List Entry → List Entry
seen_before_own (Ok (Ok done)) seen = take done.at seen
seen_before_own _ seen = seen

-- the part whose turn was found taken is in the call's reach after all that is seen now
abbrev pub FindsReached : Shape → Caller → Call → Answer → List Entry → Type 0
FindsReached shape caller call (Err (reasons.Busy part)) now = IsReachedAfter shape caller call now part
FindsReached shape caller call _ now = Unit {0}
