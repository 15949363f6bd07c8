-- Calls that are asked of a face one after another, and what it tells of them (this board's own rule).
use Rattle.std.specs.Prelude.{◌≡◌, ℕ, ◌+◌, ◌<◌, ◌≤◌, false, List, [], ◌∷◌, ◌++◌, flat_map, length, All, Some, None, Ok, Err, IfSome, IfErr, IsOk, OnErr}
use Rattle.std.specs.declared.option.Option.{Option}
use Rattle.std.specs.declared.result.Result.{Result}
use Rattle.irq_base.specs.Faces.{PlacedEntry, WhereTold, Rose, may_publish}
use Rattle.irq_base.specs.declared.call.Call.{Call}
use Rattle.irq_base.specs.declared.call.Caller.{Caller}
use Rattle.irq_base.specs.declared.event.Event.{Event}
use Rattle.irq_base.specs.declared.face.Face.{Ghosts}
use Rattle.irq_base.specs.declared.reply.Done.{Done}
use Rattle.irq_base.specs.declared.reply.Spent.{Spent}

-- a call that was answered, as it stands among those of its caller: one, at the place answered; none where a limit barred it
abbrev pub answered_by : Caller → Call → List Event → Result Done Spent → List PlacedEntry
answered_by who call events (Ok done) =
    record { entry = record { caller = who; call = call; reply = done.reply; events = events }; at = done.at } ∷ []
answered_by who call events (Err spent) = []

-- a call that was asked of a face, the events that it handed out, and its answer
pub record Ask : Type 0 where
  pub call : Call
  pub events : List Event
  pub answer : Result Done Spent

-- those of a caller's asks that were answered
abbrev pub answered_in : Caller → List Ask → List PlacedEntry
answered_in who asks = flat_map (λ (a : Ask). answered_by who a.call a.events a.answer) asks

-- the limit in an answer, if it is one
abbrev pub limit_in : {A : Type 0} → Result A Spent → Option Spent
limit_in (Ok answer) = None
limit_in (Err spent) = Some spent

-- what stands in a list of events where these calls were answered one after another: the events of the last, or what stood there before
abbrev pub events_after : List PlacedEntry → List Event → List Event
events_after [] had = had
events_after (p ∷ answered) had = events_after answered p.entry.events

-- and nothing where a limit barred the next
abbrev pub events_left : Option Spent → List PlacedEntry → List Event → List Event
events_left None answered had = events_after answered had
events_left (Some spent) answered had = []

-- all calls are of one caller
abbrev pub AreOf : Caller → List PlacedEntry → Type 0
AreOf who answered = All (λ (p : PlacedEntry). p.entry.caller ≡ who) answered

module _ {F : Type 0} (face : Ghosts F) where
  -- ---- each as the face promises

  -- these were asked of a face one after another, each being as it promises, and nothing else was
  abbrev pub WereAsked : F → List Ask → F → Type 0
  WereAsked before [] after = after ≡ before
  WereAsked before (a ∷ asks) after = (next : F) × face.keeps before a.call a.events a.answer next × WereAsked next asks after

  -- of what was asked, just these calls of its caller were answered
  pub record HasKept (before after : F) (answered : List PlacedEntry) : Type 0 where
    pub asks : List Ask
    pub asked : WereAsked before asks after
    pub just : answered_in (face.who before) asks ≡ answered

  -- ---- what it tells

  -- a face answered these calls of its caller, one after another
  pub record HasAnswered (before after : F) (answered : List PlacedEntry) : Type 0 where
    pub shape : face.shape after ≡ face.shape before
    pub caller : face.who after ≡ face.who before
    pub home : face.home after ≡ face.home before
    pub floor : face.floor before ≤ face.floor after
    -- where it tells the entries of its caller, it gained just these
    pub own : WhereTold (face.own before) (face.own after) (λ had has. has ≡ had ++ answered)
    -- where it tells how many calls are left to it, they are fewer by just these
    pub left : WhereTold (face.left before) (face.left after) (λ had has. has + length answered ≡ had)
    pub callers : AreOf (face.who before) answered
    -- and each ask was as it promises
    pub kept : HasKept before after answered

  -- no limit barred a call, or this one barred a call and is the last that did
  abbrev pub StopTold : Option Spent → F → F → Type 0
  StopTold None before after = (face.stops after ≡ face.stops before) × (face.last after ≡ face.last before)
  StopTold (Some spent) before after = Rose (face.stops before) (face.stops after) × (face.last after ≡ Some spent)

  -- a call was asked, and answered or barred
  pub record IsAnswered (call : Call) (events : List Event) (answer : Result Done Spent) (before after : F) : Type 0 where
    pub answered : HasAnswered before after (answered_by (face.who before) call events answer)
    pub stops : StopTold (limit_in answer) before after
    -- where the face tells that a call is left to it, only the limit of publications can bar one
    pub enough : IfSome (face.left before) (λ left. 0 < left → may_publish call ≡ false → IsOk answer)
    pub barred : IfErr answer (λ spent. face.barred after call spent)
    pub quiet : OnErr answer (events ≡ [])
    pub kept : face.keeps before call events answer after
