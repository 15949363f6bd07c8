-- What the word `run` leaves: a transcript, and the running board on which the script ran (this board's own rule).
use Rattle.std.specs.Prelude.{◌≡◌, ℕ, List, Ok, All}
use Rattle.std.specs.declared.option.Option.{Option}
use Rattle.std.specs.Io.KnownBytes.{Consumes, Appends, IsAtEnd}
use Rattle.irq_base.specs.declared.lists.Entry.{Entry}
use Rattle.irq_base.specs.declared.reply.Spent.{Spent as Limit}
use Rattle.script_text.specs.Scripts.{Script, script_of}
use Rattle.transcript.specs.Text.{text_of}
use Rattle.replaying.specs.Replays.{run_of}
use Rattle.live_runs.specs.Made.{AreOfActors, HasLearnt, HasMadeJust, seen_by_first}
use Rattle.live_runs.specs.Running.{IsRun}
use Rattle.irqboard.specs.Output.{AppendsPart}
use Rattle.irqboard.specs.declared.live.Live.{Live}

-- A script ran on this running board. The board has the script's shape. Its passes are one an actor, in order, and no other pass of it
-- was made. The history is what the first of them has seen on that board; the others know it too, and none has an entry of its caller
-- beside those in it
pub record RanOn (live : Live) (s : Script) (history : List Entry) : Type 0 where
  pub shape : live.board.shape ≡ s.shape
  pub passes : AreOfActors live.board s live.passes.items
  pub made : HasMadeJust live.desk live.passes.items
  pub seen : history ≡ seen_by_first live.passes.items
  pub told : All (HasLearnt history) live.passes.items

-- The input is a script, which ran on that board: its history is one legal history of the script's actors, and keeps all laws. The text is
-- the transcript of this history. A limit stopped an actor, and the first such actor at this one, or none did
pub record IsLiveRun (live : Live) (input : List ℕ) (spent : Option Limit) (text : List ℕ) : Type 0 where
  pub script : Script
  pub reads : script_of input ≡ Ok script
  pub history : List Entry
  pub run : IsRun script history spent
  pub ran : RanOn live script history
  pub written : text ≡ text_of (run_of history spent)

-- The whole input was read, its script ran on that board, and the whole transcript of the run was written. Where the source does not tell
-- its bytes, or the sink what it holds, the rest of this stands
pub record Ran (live : Live) (left left' held holds : Option (List ℕ)) (spent : Option Limit) : Type 0 where
  pub input : List ℕ
  pub text : List ℕ
  pub read : Consumes left left' input
  pub end : IsAtEnd left'
  pub run : IsLiveRun live input spent text
  pub wrote : Appends held holds text

-- The whole input was read and its script ran on that board, and then the sink failed: of the transcript of the run a front was written that
-- is not all of it
pub record RanInPart (live : Live) (left left' held holds : Option (List ℕ)) : Type 0 where
  pub input : List ℕ
  pub spent : Option Limit
  pub text : List ℕ
  pub read : Consumes left left' input
  pub end : IsAtEnd left'
  pub run : IsLiveRun live input spent text
  pub front : AppendsPart held holds text
