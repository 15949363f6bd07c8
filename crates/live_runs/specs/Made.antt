-- Passes of the actors of a script (this board's own rule).
use Rattle.std.specs.Prelude.{◌≡◌, List, [], ◌∷◌, map, All}
use Rattle.irq_base.specs.declared.call.Caller.{Caller}
use Rattle.irq_base.specs.declared.lists.Entry.{Entry}
use Rattle.script_text.specs.Asks.{actors_of}
use Rattle.script_text.specs.Scripts.{Script}
use Rattle.turn_book.specs.Histories.{IsPrefix}
use Rattle.part_board.specs.Closing.{has_pass}
use Rattle.part_board.specs.declared.desk.Desk.{Desk}
use Rattle.part_board.specs.declared.live.LiveBoard.{LiveBoard}
use Rattle.part_board.specs.declared.pass.Pass.{Pass}
use Rattle.part_board.specs.Seen.{pass_seen, has_made, entries_by, IsPassOf}

-- a pass of the board that has asked nothing
pub record IsFresh (board : LiveBoard) (pass : Pass) : Type 0 where
  pub of_board : IsPassOf board pass
  pub fresh : entries_by pass.caller (pass_seen pass) ≡ []

-- the callers of passes
abbrev pub callers_of : List Pass → List Caller
callers_of passes = map (λ (pass : Pass). pass.caller) passes

-- the passes are of the board, one an actor, in their order
pub record AreOfActors (board : LiveBoard) (s : Script) (passes : List Pass) : Type 0 where
  pub each : All (IsPassOf board) passes
  pub callers : callers_of passes ≡ actors_of s.lines

-- the desk has made just these passes
abbrev pub HasMadeJust : Desk → List Pass → Type 0
HasMadeJust desk passes = (c : Caller) → has_made desk c ≡ has_pass passes c

-- what the first of the passes has seen
abbrev pub seen_by_first : List Pass → List Entry
seen_by_first [] = []
seen_by_first (pass ∷ passes) = pass_seen pass

-- the pass has seen the history, and no more entries of its caller than stand there
pub record HasLearnt (history : List Entry) (pass : Pass) : Type 0 where
  pub seen : IsPrefix history (pass_seen pass)
  pub own : entries_by pass.caller (pass_seen pass) ≡ entries_by pass.caller history
