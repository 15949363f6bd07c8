-- What the code leaves that asks calls of a board, and keeps their entries (this board's own).
use Rattle.std.specs.Prelude.{◌≡◌, List, [], ◌∷◌, ◌++◌, Ok, Err, Some}
use Rattle.std.specs.declared.option.Option.{Option}
use Rattle.std.specs.declared.result.Result.{Result}
use Rattle.irq_base.specs.declared.call.Call.{Call}
use Rattle.irq_base.specs.declared.call.Caller.{Caller}
use Rattle.irq_base.specs.declared.event.Event.{Event}
use Rattle.irq_base.specs.declared.lists.Entry.{Entry}
use Rattle.irq_base.specs.declared.reply.Reply.{Reply}
use Rattle.irq_base.specs.declared.reply.Spent.{Spent}
use Rattle.script_text.specs.declared.task.ActorLine.{ActorLine}
use Rattle.script_text.specs.Asks.{Asks}
use Rattle.board_model.specs.Board.{Board}
use Rattle.board_step.specs.Applied.{UnwishedStep}
use Rattle.board_step.specs.Bodies.{entry_of}
use Rattle.board_step.specs.Step.{spent_of}
use Rattle.replaying.specs.declared.stops.Stop.{Stop}
use Rattle.replaying.specs.FileOrder.{Asked, LinesAsked}

-- a call was answered, and its entry stands behind the others; or a limit bars it, and all is as before
abbrev pub Answered : Caller → Call → Board → List Entry → Result Reply Spent → Board → List Entry → Type 0
Answered who call b before (Ok reply) c after =
    (told : List Event) × UnwishedStep b (entry_of who call reply told) c × (after ≡ before ++ entry_of who call reply told ∷ [])
Answered who call b before (Err spent) c after = (c ≡ b) × (after ≡ before) × (spent_of b call ≡ Some spent)

-- a caller asked, and its entries stand behind the others
pub record Played (who : Caller) (asks rest : Asks) (b : Board) (before : List Entry) (stop : Option Spent) (c : Board)
    (after : List Entry) : Type 0 where
  pub mine : List Entry
  pub grown : after ≡ before ++ mine
  pub asked : Asked who asks rest b mine stop c

-- lines were asked, and their entries stand behind the others
pub record LinesPlayed (lines : List ActorLine) (b : Board) (had : List Stop) (before : List Entry) (c : Board) (has : List Stop)
    (after : List Entry) : Type 0 where
  pub mine : List Entry
  pub grown : after ≡ before ++ mine
  pub asked : LinesAsked lines b had mine c has
