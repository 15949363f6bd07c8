-- What a replay of a script is (this board's own rule).
use Rattle.std.specs.Prelude.{◌≡◌, List, is_some, true}
use Rattle.std.specs.declared.option.Option.{Option}
use Rattle.irq_base.specs.declared.lists.Entry.{Entry}
use Rattle.irq_base.specs.declared.reply.Spent.{Spent}
use Rattle.script_text.specs.Scripts.{Script}
use Rattle.board_step.specs.Applied.{is_reached}
use Rattle.board_step.specs.History.{opening, board_after}
use Rattle.transcript.specs.declared.transcript.Transcript.{Transcript}
use Rattle.script_histories.specs.Merging.{Fits}
use Rattle.replaying.specs.FileOrder.{InFileOrder}

-- the run of a history, whose ending tells whether a limit stopped an actor
abbrev pub run_of : List Entry → Option Spent → Transcript
run_of history spent = record { history = history; spent = is_some spent }

-- the history is a replay of the script: it fits it, its lines stand in file order, and a limit that stopped an actor is one of the
-- script's, and is reached on the board after it
pub record Replays (s : Script) (history : List Entry) (spent : Option Spent) : Type 0 where
  pub fits : Fits s (run_of history spent)
  pub order : InFileOrder s history spent
  pub reached : is_reached (board_after (opening s.shape) history) spent ≡ true
