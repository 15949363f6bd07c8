-- One call on a board in code, and limits that are reached (this board's own rule).
use Rattle.std.specs.Prelude.{◌≡◌, Bool, true, ◌&&◌, nat_eq, List, [], ◌∷◌, Some, None, IfOk, OnErr, MatchResult}
use Rattle.std.specs.declared.option.Option.{Option}
use Rattle.std.specs.declared.result.Result.{Result}
use Rattle.irq_base.specs.Room.{with_told}
use Rattle.irq_base.specs.declared.call.Call.{Call}
use Rattle.irq_base.specs.declared.call.Caller.{Caller}
use Rattle.irq_base.specs.declared.event.Event.{Event}
use Rattle.irq_base.specs.declared.lists.Entry.{Entry}
use Rattle.irq_base.specs.declared.reply.Done.{Done}
use Rattle.irq_base.specs.declared.reply.Reply.{Reply}
use Rattle.irq_base.specs.declared.reply.Spent.{Spent}
use Rattle.irq_base.specs.declared.reply.Spent.TheVariants.{Calls, Publications}
use Rattle.board_model.specs.Board.{Board}
use Rattle.board_model.specs.Run.{Wishes, run}
use Rattle.board_step.specs.Bodies.{entry_of}
use Rattle.board_step.specs.Step.{plan_on, spent_of, Step}

-- a call was answered: so many entries stood before it; it told events after those that stood in the list, but for what found
-- no room; and its entry leads from the board before to the board after
pub record Applied (old : Board) (caller : Caller) (call : Call) (done : Done) (before now : List Event) (new : Board) : Type 0 where
  pub at : done.at ≡ old.length
  pub told : List Event
  pub events : now ≡ with_told before told
  pub step : Step old (entry_of caller call done.reply told) new

-- an entry is a step from a board: it leads to some board
abbrev pub LeadsOn : Board → Entry → Type 0
LeadsOn b e = (next : Board) × Step b e next

-- under these wishes a call answers this reply alone, and it tells events of which the list has, after those that stood there, what
-- found room
pub record Ran (b : Board) (caller : Caller) (call : Call) (wishes : Wishes) (reply : Reply) (before now : List Event) : Type 0 where
  pub answers : (run (plan_on b caller call) b wishes).log.answers ≡ reply ∷ []
  pub events : now ≡ with_told before (run (plan_on b caller call) b wishes).log.events

-- an entry leads from one board to the next where nothing is wished: its reply, its events and the next board are those of its call
-- under no wish
abbrev pub UnwishedStep : Board → Entry → Board → Type 0
UnwishedStep b e c = (step : Step b e c) × (step.wishes ≡ [])

-- a call was asked of a board, which handed out these events and gave this answer: its entry leads to the board after, at the place that
-- is answered; or the limit that is answered bars it, no event is handed out, and the board is as before
pub record IsAskedOf (b : Board) (caller : Caller) (call : Call) (events : List Event) (answer : Result Done Spent) (c : Board) : Type 0 where
  pub spent : MatchResult answer (λ _. spent_of b call ≡ None) (λ spent. spent_of b call ≡ Some spent)
  pub at : IfOk answer (λ done. done.at ≡ b.length)
  pub whole : IfOk answer (λ done. UnwishedStep b (entry_of caller call done.reply events) c)
  pub stays : OnErr answer (c ≡ b)
  pub quiet : OnErr answer (events ≡ [])

-- whether a limit that barred a call is one of the board's shape, and is reached; none need be
abbrev pub is_reached : Board → Option Spent → Bool
is_reached b None = true
is_reached b (Some (Calls at)) = nat_eq at b.shape.calls && nat_eq b.length at
is_reached b (Some (Publications at)) = nat_eq at b.shape.publications && nat_eq b.publications at
