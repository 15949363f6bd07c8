-- What a body is worth that runs a call on parts in hand, whatever board they are of (this board's own rule).
use Rattle.std.specs.Prelude.{◌≡◌, ℕ, true, List, [], ◌∷◌, Result, Ok, Err, is_some, None}
use Rattle.irq_base.specs.Callers.{is_allowed}
use Rattle.irq_base.specs.declared.call.Call.{Call}
use Rattle.irq_base.specs.declared.call.Caller.{Caller}
use Rattle.irq_base.specs.declared.event.Event.{Event}
use Rattle.irq_base.specs.declared.lists.Entry.{Entry}
use Rattle.irq_base.specs.declared.reply.Reply.{Reply}
use Rattle.irq_base.specs.declared.shape.Part.{Part}
use Rattle.irq_base.specs.declared.shape.Shape.{Shape}
use Rattle.irq_base.specs.Room.{with_told}
use Rattle.board_model.specs.Board.{Board}
use Rattle.board_model.specs.Hand.{Parts, part_in}
use Rattle.board_model.specs.Published.{published, routing_of_words, IsSoundRegistry}
use Rattle.board_model.specs.Plan.{Plan}
use Rattle.board_model.specs.Run.{Wishes, Log, OnParts, gives, lacks, run_on}
use Rattle.board_model.specs.Agreement.{Agrees, LacksReached, HoldsReached}
use Rattle.board_raise.specs.declared.lacks.Lacks.{Lacks}
use Rattle.board_calls.specs.Calls.{plan_of}
use Rattle.board_step.specs.Step.{spent_of, Step}
use Rattle.board_step.specs.Reach.{reach}

-- ---- whose parts they are

-- what is in hand is of this board: its shape, the words that it publishes, and parts of its own; its registry is sound
pub record IsOf (shape : Shape) (words : List ℕ) (q : Parts) (b : Board) : Type 0 where
  pub one_shape : b.shape ≡ shape
  pub sound : IsSoundRegistry b.registry b.shape.tick
  pub publishes : published b.registry b.shape.tick ≡ words
  pub agrees : Agrees q b

-- the call may be made on this board: it is allowed to its caller, and no limit bars it
pub record MayCall (b : Board) (caller : Caller) (call : Call) : Type 0 where
  pub allowed : is_allowed caller call b.shape ≡ true
  pub in_limits : spent_of b call ≡ None

-- ---- runs on parts in hand

-- the entry of a call with this reply and these events
abbrev pub entry_of : Caller → Call → Reply → List Event → Entry
entry_of caller call reply events = record { caller = caller; call = call; reply = reply; events = events }

-- what a call does by these words
abbrev pub plan_by : List ℕ → Shape → Caller → Call → Plan (Unit {0})
plan_by words shape caller call = plan_of (routing_of_words words) shape caller call

-- where the call may be made on the board, its entry with this reply and these events is a step; the parts that are left are
-- those of the board after it, the same are in hand as before, and each part of the reach was
pub record IsStepFrom (b : Board) (caller : Caller) (call : Call) (q left : Parts) (reply : Reply) (told : List Event) : Type 0 where
  pub next : Board
  pub step : MayCall b caller call → Step b (entry_of caller call reply told) next
  pub agrees : Agrees left next
  pub held : (p : Part) → is_some (part_in left p) ≡ is_some (part_in q p)
  pub reached : HoldsReached q (reach b caller call)

-- a run answered once, and so it is a step
pub record AnswersAStep (b : Board) (caller : Caller) (call : Call) (q left : Parts) (log : Log) : Type 0 where
  pub reply : Reply
  pub answered : log.answers ≡ reply ∷ []
  pub leads : IsStepFrom b caller call q left reply log.events

-- what a run on parts in hand is worth on a board: a step from it, or it lacks a part of the reach
abbrev pub IsWorth : Board → Caller → Call → Parts → OnParts (Unit {0}) → Type 0
IsWorth b caller call q (gives _ log left wishes) = AnswersAStep b caller call q left log
IsWorth b caller call q (lacks p) = LacksReached p q (reach b caller call)

-- a call that is run on parts in hand, by the published words, is worth that on every board of which the parts are
abbrev pub BodiesStep : Type 0
BodiesStep =
    (shape : Shape) (words : List ℕ) (q : Parts) (caller : Caller) (call : Call) (ws : Wishes) (b : Board)
    → IsOf shape words q b → IsWorth b caller call q (run_on (plan_by words shape caller call) q ws)

-- ---- bodies in code

-- a body gave what a run gave: its one reply, its events behind those before, the parts and the wishes left
pub record IsGiven (reply : Reply) (before events : List Event) (after left : Parts) (later wishes : Wishes) (log : Log) : Type 0 where
  pub answers : log.answers ≡ reply ∷ []
  pub noted : events ≡ with_told before log.events
  pub parts : after ≡ left
  pub left_over : later ≡ wishes

-- what a body answered, and the events, parts and wishes after it, are those of a run; or it names what the run lacks
abbrev pub Did : Result Reply Lacks → List Event → List Event → Parts → Wishes → OnParts (Unit {0}) → Type 0
Did (Ok reply) before events after later (gives _ log left wishes) = IsGiven reply before events after left later wishes log
Did (Ok reply) before events after later (lacks p) = ⊥
Did (Err l) before events after later (gives _ log left wishes) = ⊥
Did (Err l) before events after later (lacks p) = l.part ≡ p

-- the answer of a body is a step from the board, with events of which the list has those that found room
pub record Stepped (b : Board) (caller : Caller) (call : Call) (q left : Parts) (reply : Reply) (before events : List Event) : Type 0 where
  pub told : List Event
  pub noted : events ≡ with_told before told
  pub leads : IsStepFrom b caller call q left reply told

-- a body made a step from the board, or it names a part of the reach that is not in hand
abbrev pub LeadsFrom : Board → Caller → Call → Parts → Result Reply Lacks → List Event → List Event → Parts → Type 0
LeadsFrom b caller call q (Ok reply) before events after = Stepped b caller call q after reply before events
LeadsFrom b caller call q (Err l) before events after = LacksReached l.part q (reach b caller call)

-- the promise of a body: so it is from every board of which its parts are
abbrev pub BodyLeads : Shape → List ℕ → Parts → Caller → Call → Result Reply Lacks → List Event → List Event → Parts → Type 0
BodyLeads shape words q caller call result before events after =
    (b : Board) → IsOf shape words q b → LeadsFrom b caller call q result before events after

-- what a body did by the published words leads on
abbrev pub DoneLeads : Type 0
DoneLeads =
    (shape : Shape) (words : List ℕ) (q : Parts) (caller : Caller) (call : Call) (ws : Wishes) (result : Result Reply Lacks)
    (before events : List Event) (after : Parts) (later : Wishes)
    → Did result before events after later (run_on (plan_by words shape caller call) q ws)
    → BodyLeads shape words q caller call result before events after
