-- What holds of every step (over this board's own definitions).
use Rattle.std.specs.Prelude.{◌≡◌, ◌^◌, ◌<◌, ◌≤◌, All, true, false, List, [], ◌∷◌, length, Some, None}
use Rattle.irq_base.specs.Callers.{is_allowed}
use Rattle.irq_base.specs.declared.call.Call.{Call}
use Rattle.irq_base.specs.declared.call.Call.TheVariants.{Reroute}
use Rattle.irq_base.specs.declared.call.Row.{Row}
use Rattle.irq_base.specs.declared.call.Row.TheVariants.{Msi}
use Rattle.irq_base.specs.declared.call.Caller.{Caller}
use Rattle.irq_base.specs.declared.event.Event.{Event}
use Rattle.irq_base.specs.declared.lists.Entry.{Entry}
use Rattle.irq_base.specs.declared.refusal.Refusal.{Refusal}
use Rattle.irq_base.specs.declared.reply.Reply.{Reply}
use Rattle.irq_base.specs.declared.reply.Reply.TheVariants.{Refused}
use Rattle.irq_base.specs.declared.shape.Part.{Part}
use Rattle.irq_base.specs.declared.shape.Part.TheVariants.{Registry, Counters, Tick, Pic, Ioapic, Lapic}
use Rattle.irq_base.specs.declared.shape.Shape.{Shape}
use Rattle.board_model.specs.Board.{Board, part_of}
use Rattle.board_model.specs.Registry.{RegistryPart}
use Rattle.board_model.specs.Published.{published}
use Rattle.board_model.specs.Following.{IsSteady}
use Rattle.board_model.specs.Run.{Wishes, Log, reaches as plan_reaches, run}
use Rattle.board_raise.specs.Fit.{InLimits}
use Rattle.board_step.specs.Step.{refusal_of, would_publish, spent_of, plan_on, outcome_of, Step}
use Rattle.board_step.specs.Reach.{reach}
use Rattle.board_step.specs.Sound.{IsSound}
use Rattle.board_step.specs.History.{opening, Leads, wishes_shown, next_board, board_after}

-- ---- a step leads to one board

-- an entry leads from a board to one board at most
abbrev pub LeadsToOne : Type 0
LeadsToOne = (b : Board) (e : Entry) (c d : Board) → Step b e c → Step b e d → c ≡ d

-- a history leads from a board to one board at most, which is that of its entries
abbrev pub BoardAfterIsReached : Type 0
BoardAfterIsReached = (b : Board) (es : List Entry) (c : Board) → Leads b es c → board_after b es ≡ c

-- the choices of a call can be followed, whatever it does
abbrev pub CallsSteadily : Type 0
CallsSteadily = (b : Board) (caller : Caller) (call : Call) → IsSteady (plan_on b caller call)

-- under the wishes that its entry shows a step has this reply, these events, this log and leads to this board
pub record IsFollowed (b : Board) (e : Entry) (c : Board) (log : Log) : Type 0 where
  pub replied : (outcome_of b e (wishes_shown e)).log.answers ≡ e.reply ∷ []
  pub told : (outcome_of b e (wishes_shown e)).log.events ≡ e.events
  pub logged : (outcome_of b e (wishes_shown e)).log ≡ log
  pub leads : next_board b e ≡ c

-- each step is followed by what its entry shows: whatever wishes made it, its log is that of the wishes shown
abbrev pub StepsAreFollowed : Type 0
StepsAreFollowed = (b : Board) (e : Entry) (c : Board) (step : Step b e c) → IsFollowed b e c (outcome_of b e step.wishes).log

-- ---- a call always answers

-- each call answers exactly once, on every board and under all wishes
abbrev pub AnswersOnce : Type 0
AnswersOnce = (b : Board) (caller : Caller) (call : Call) (ws : Wishes) → length (run (plan_on b caller call) b ws).log.answers ≡ 1

-- some reply, and at most 560 events, are those of a step
pub record HasStep (b : Board) (caller : Caller) (call : Call) : Type 0 where
  pub reply : Reply
  pub events : List Event
  pub next : Board
  pub step : Step b (record { caller = caller; call = call; reply = reply; events = events }) next
  pub bounded : length events ≤ 560

-- each call that is allowed to its caller, and that no limit bars, has a step
abbrev pub AlwaysAnswers : Type 0
AlwaysAnswers =
    (b : Board) (caller : Caller) (call : Call) → IsSound b → is_allowed caller call b.shape ≡ true → spent_of b call ≡ None
    → HasStep b caller call

-- a step from a sound board tells at most 560 events
abbrev pub StepsTellFew : Type 0
StepsTellFew = (b : Board) (e : Entry) (c : Board) → IsSound b → Step b e c → length e.events ≤ 560

-- ---- a step depends on its reach

-- the table of what a call reaches says which parts its plan looks at or writes, under all wishes
abbrev pub ReachIsTable : Type 0
ReachIsTable =
    (b : Board) (caller : Caller) (call : Call) (ws : Wishes) (q : Part)
    → plan_reaches (plan_on b caller call) b ws q ≡ reach b caller call q

-- a step changes no part outside its reach
abbrev pub StaysOutsideReach : Type 0
StaysOutsideReach =
    (b : Board) (e : Entry) (c : Board) (q : Part) → Step b e c → reach b e.caller e.call q ≡ false → part_of c q ≡ part_of b q

-- two registries have the same registrations
pub record SameRegistrations (registry other : RegistryPart) : Type 0 where
  pub irqfds : registry.irqfds ≡ other.irqfds
  pub watches : registry.watches ≡ other.watches
  pub ioevents : registry.ioevents ≡ other.ioevents

-- two boards have a part the same; of the registry the registrations alone, since published words tell the table
abbrev pub SamePart : Board → Board → Part → Type 0
SamePart b d Registry = SameRegistrations b.registry d.registry
SamePart b d Counters = b.counters ≡ d.counters
SamePart b d Tick = b.tick ≡ d.tick
SamePart b d Pic = b.pic ≡ d.pic
SamePart b d Ioapic = b.ioapic ≡ d.ioapic
SamePart b d (Lapic n) = part_of b (Lapic n) ≡ part_of d (Lapic n)

-- two boards of one shape that publish the same words, and agree on what a call of that caller reaches
pub record AgreesForCall (b d : Board) (caller : Caller) (call : Call) : Type 0 where
  pub shape : b.shape ≡ d.shape
  pub words : published b.registry b.shape.tick ≡ published d.registry d.shape.tick
  pub parts : (q : Part) → reach b caller call q ≡ true → SamePart b d q

-- an entry that leads from b to c is a step from d too, with the same reach, and the parts of the reach are the same after it
pub record StepsAlike (b d : Board) (e : Entry) (c : Board) : Type 0 where
  pub reaches : (q : Part) → reach d e.caller e.call q ≡ reach b e.caller e.call q
  pub next : Board
  pub step : Step d e next
  pub parts : (q : Part) → reach b e.caller e.call q ≡ true → part_of next q ≡ part_of c q

-- a step depends on its reach and the published words alone
abbrev pub DependsOnReach : Type 0
DependsOnReach =
    (b d : Board) (e : Entry) (c : Board) → IsSound b → IsSound d → AgreesForCall b d e.caller e.call → spent_of d e.call ≡ None
    → Step b e c → StepsAlike b d e c

-- a step that is no publication leaves the published words
abbrev pub WordsStay : Type 0
WordsStay =
    (b : Board) (e : Entry) (c : Board) → Step b e c → would_publish b e.call ≡ false
    → published c.registry c.shape.tick ≡ published b.registry b.shape.tick

-- ---- refusals

-- a call that is refused answers its refusal alone; it tells no event and changes nothing
pub record RefusesRightly (b : Board) (caller : Caller) (call : Call) (ws : Wishes) (refusal : Refusal) : Type 0 where
  pub answers : (run (plan_on b caller call) b ws).log.answers ≡ Refused refusal ∷ []
  pub events : (run (plan_on b caller call) b ws).log.events ≡ []
  pub board : (run (plan_on b caller call) b ws).board ≡ b

-- a refusal of a board is the answer of its call
abbrev pub RefusesFirst : Type 0
RefusesFirst =
    (b : Board) (caller : Caller) (call : Call) (ws : Wishes) (refusal : Refusal) → refusal_of b call ≡ Some refusal
    → RefusesRightly b caller call ws refusal

-- an answer that is a refusal is that of the board
abbrev pub RefusedRightly : Type 0
RefusedRightly =
    (b : Board) (e : Entry) (c : Board) (refusal : Refusal) → Step b e c → e.reply ≡ Refused refusal → refusal_of b e.call ≡ Some refusal

-- ---- sound boards

-- a board at power-on is sound where its shape is in limits
abbrev pub OpeningIsSound : Type 0
OpeningIsSound = (shape : Shape) → InLimits shape → IsSound (opening shape)

-- the payload of a row's message has 32 bits
abbrev pub PayloadFits : Row → Type 0
PayloadFits (Msi gsi address payload) = payload < 2 ^ 32
PayloadFits _ = Unit {0}

-- the payloads of a routing table's rows, which no refusal bounds, have the 32 bits of their type
abbrev pub IsTyped : Call → Type 0
IsTyped (Reroute rows) = All PayloadFits rows
IsTyped _ = Unit {0}

-- a step of a typed call from a sound board leads to one
abbrev pub StepsKeepSound : Type 0
StepsKeepSound = (b : Board) (e : Entry) (c : Board) → IsSound b → IsTyped e.call → Step b e c → IsSound c

-- each board that typed calls lead to from one at power-on is sound, where its shape is in limits
abbrev pub HistoriesKeepSound : Type 0
HistoriesKeepSound =
    (shape : Shape) (es : List Entry) (last : Board) → InLimits shape → All (λ (e : Entry). IsTyped e.call) es
    → Leads (opening shape) es last → IsSound last
