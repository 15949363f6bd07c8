-- What is known of passes after their actors ran, and before they learn of each other (this board's own).
use Rattle.std.specs.Prelude.{◌≡◌, true, List, [], ◌∷◌, All, is_some, Some, None}
use Rattle.std.specs.List.Sorted.{IsNonDecreasingBy}
use Rattle.std.specs.declared.option.Option.{Option}
use Rattle.irq_base.specs.Faces.{PlacedEntry}
use Rattle.irq_base.specs.declared.call.Call.{Call}
use Rattle.irq_base.specs.declared.lists.Entry.{Entry}
use Rattle.irq_base.specs.declared.reply.Spent.{Spent}
use Rattle.script_text.specs.Scripts.{Script}
use Rattle.script_merging.specs.Merging.{next_of, Merges, IsWhole}
use Rattle.board_step.specs.Step.{spent_of}
use Rattle.actors.specs.Runs.{calls_by}
use Rattle.actors.specs.Turns.{entries_in}
use Rattle.part_board.specs.Facing.{own_in, board_seen}
use Rattle.part_board.specs.declared.pass.Pass.{Pass}
use Rattle.part_board.specs.Seen.{pass_seen}
use Rattle.live_runs.specs.Running.{ByNext}

-- the pass has seen just the calls of its caller that stand among these, each at its place
abbrev pub HasOwn : List PlacedEntry → Pass → Type 0
HasOwn calls pass = calls_by pass.caller calls ≡ own_in pass.caller (pass_seen pass)

-- if the actor of the pass has a call left, a limit bars it on the board that the pass has seen
abbrev pub IsStopped : Script → List Entry → Pass → Type 0
IsStopped s history pass = (call : Call) → next_of s history pass.caller ≡ Some call → is_some (spent_of (board_seen pass) call) ≡ true

-- the limit that is told bars this call on the board that the pass has seen
abbrev pub StopsAt : Option Spent → Pass → Call → Type 0
StopsAt spent pass call = (is_some spent ≡ true) × (spent_of (board_seen pass) call ≡ spent)

-- the limit that is told stops the first of these passes whose actor has a call left; none is told where none has
abbrev pub FirstStop : Script → List Entry → Option Spent → List Pass → Type 0
FirstStop s history spent [] = spent ≡ None
FirstStop s history spent (pass ∷ passes) =
    ByNext (next_of s history pass.caller) (FirstStop s history spent passes) (StopsAt spent pass)

-- the actors ran, each by its pass
pub record HaveRunBy (s : Script) (history : List Entry) (spent : Option Spent) (passes : List Pass) : Type 0 where
  pub calls : List PlacedEntry
  pub listed : history ≡ entries_in calls
  pub rising : IsNonDecreasingBy (λ (p : PlacedEntry). p.at) calls
  pub own : All (HasOwn calls) passes
  pub merge : Merges s [] history
  pub whole : spent ≡ None → IsWhole s history
  pub stopped : All (IsStopped s history) passes
  pub first : FirstStop s history spent passes
