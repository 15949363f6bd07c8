-- What a run of a script on a running board is (this board's own rule).
use Rattle.std.specs.Prelude.{◌≡◌, true, List, [], ◌∷◌, is_some, Some, None}
use Rattle.std.specs.declared.option.Option.{Option}
use Rattle.irq_base.specs.declared.call.Call.{Call}
use Rattle.irq_base.specs.declared.call.Caller.{Caller}
use Rattle.irq_base.specs.declared.lists.Entry.{Entry}
use Rattle.irq_base.specs.declared.reply.Spent.{Spent}
use Rattle.script_text.specs.Asks.{actors_of}
use Rattle.script_text.specs.Scripts.{Script}
use Rattle.script_merging.specs.Merging.{next_of}
use Rattle.board_step.specs.Applied.{is_reached}
use Rattle.board_step.specs.History.{opening, board_after}
use Rattle.board_step.specs.Step.{spent_of}
use Rattle.board_laws.specs.Lawful.{KeepsTheLaws}
use Rattle.script_histories.specs.Merging.{Fits}
use Rattle.turn_book.specs.Histories.{IsPrefix}
use Rattle.part_board.specs.Seen.{entries_by}
use Rattle.replaying.specs.Replays.{run_of}

-- ---- the limit that is told

-- at some point of the history, behind which it has no entry of this caller, the limit that is told bars this call
pub record WasBarred (s : Script) (history : List Entry) (spent : Option Spent) (who : Caller) (call : Call) : Type 0 where
  pub point : List Entry
  pub within : IsPrefix point history
  pub own : entries_by who history ≡ entries_by who point
  pub told : is_some spent ≡ true
  pub bars : spent_of (board_after (opening s.shape) point) call ≡ spent

-- one thing where there is no next call, and another of the next call where there is one
abbrev pub ByNext : Option Call → Type 0 → (Call → Type 0) → Type 0
ByNext None without with_one = without
ByNext (Some call) without with_one = with_one call

-- the limit that is told barred the next call of the first of these actors that has one left; none is told where none has
abbrev pub FirstBarred : Script → List Entry → Option Spent → List Caller → Type 0
FirstBarred s history spent [] = spent ≡ None
FirstBarred s history spent (who ∷ more) = ByNext (next_of s history who) (FirstBarred s history spent more) (WasBarred s history spent who)

-- ---- a run

-- a history is a run of the script: it is legal and fits the script with its ending, and it keeps all laws; and the limit that is told is
-- that of the first actor that was stopped, and is reached on the board after the history
pub record IsRun (s : Script) (history : List Entry) (spent : Option Spent) : Type 0 where
  pub fits : Fits s (run_of history spent)
  pub laws : KeepsTheLaws s.shape history
  pub first : FirstBarred s history spent (actors_of s.lines)
  pub reached : is_reached (board_after (opening s.shape) history) spent ≡ true
