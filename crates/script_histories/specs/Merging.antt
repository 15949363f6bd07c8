-- Legal histories that are what the actors of a script ask, and the endings of a run (this board's own rule).
use Rattle.std.specs.Prelude.{◌≡◌, Bool, true, false, is_some, List, [], Some}
use Rattle.irq_base.specs.declared.call.Call.{Call}
use Rattle.irq_base.specs.declared.call.Caller.{Caller}
use Rattle.irq_base.specs.declared.lists.Entry.{Entry}
use Rattle.script_text.specs.Scripts.{Script}
use Rattle.script_merging.specs.Merging.{next_of, Merges, IsWhole}
use Rattle.board_model.specs.Board.{Board}
use Rattle.board_step.specs.Step.{spent_of}
use Rattle.board_step.specs.History.{opening, Leads}
use Rattle.transcript.specs.declared.transcript.Transcript.{Transcript}

-- entries that merge and are steps, the first from power-on; they lead to this board
pub record Stand (s : Script) (entries : List Entry) (b : Board) : Type 0 where
  pub merge : Merges s [] entries
  pub legal : Leads (opening s.shape) entries b

-- some actor has not; and on the board behind the entries a limit bars the next call of each that has not
pub record AreBarred (s : Script) (entries : List Entry) (b : Board) : Type 0 where
  pub who : Caller
  pub left : is_some (next_of s entries who) ≡ true
  pub barred : (other : Caller) (call : Call) → next_of s entries other ≡ Some call → is_some (spent_of b call) ≡ true

-- the ending is right behind these entries, which led to this board: `end`, or `spent`
abbrev pub EndsWell : Script → List Entry → Board → Bool → Type 0
EndsWell s entries b false = IsWhole s entries
EndsWell s entries b true = AreBarred s entries b

-- a transcript fits a script: its history is legal and merges, and its ending is right
pub record Fits (s : Script) (run : Transcript) : Type 0 where
  pub board : Board
  pub stand : Stand s run.history board
  pub ends : EndsWell s run.history board run.spent
