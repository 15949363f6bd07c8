-- An operation of an MSI-X function over a face (this board's own rule).
use Rattle.std.specs.Prelude.{◌≡◌, ℕ, ◌≤◌, List, length, None, IfSome, IfErr}
use Rattle.std.specs.declared.result.Result.{Result}
use Rattle.face_asks.specs.Asks.{HasAnswered, StopTold, limit_in, events_left}
use Rattle.irq_base.specs.declared.event.Event.{Event}
use Rattle.irq_base.specs.declared.face.Face.{Ghosts}
use Rattle.irq_base.specs.declared.reply.Spent.{Spent}
use Rattle.msix_function.specs.Functions.{message_at, due}
use Rattle.msix_function.specs.Operations.{Sending, Operation, IsStep, SendsDue, call_of, calls_in}
use Rattle.msix_function.specs.declared.function.Function.{Function}

-- the face told of an operation: it answered just the messages sent, and a limit that is answered barred one
module _ {F : Type 0} (face : Ghosts F) {N : ℕ} where
  -- this limit bars the message of an entry
  abbrev pub BarsOne : F → Function N → Spent → Type 0
  BarsOne f now spent = (k : ℕ) × face.barred f (call_of (message_at now k)) spent

  -- an operation, which sends so many messages where no limit bars one
  pub record Operates {A : Type 0} (operation : Result A Spent → List Sending → Operation) (messages : ℕ) (answer : Result A Spent)
      (before after : F) (old new : Function N) (had has : List Event) : Type 0 where
    pub sent : List Sending
    pub step : IsStep old (operation answer sent) new
    pub asked : HasAnswered face before after (calls_in sent)
    pub stops : StopTold face (limit_in answer) before after
    pub barred : IfErr answer (BarsOne after new)
    -- no limit bars one where the face tells that so many calls are left to it
    pub enough : IfSome (face.left before) (λ left. messages ≤ left → limit_in answer ≡ None)
    -- the list of events has those of the last message
    pub events : has ≡ events_left (limit_in answer) (calls_in sent) had

  -- the entries that are due are sent
  pub record SendsAll (answer : Result ℕ Spent) (before after : F) (old new : Function N) (had has : List Event) : Type 0 where
    pub sent : List Sending
    pub sends : SendsDue old answer sent new
    pub asked : HasAnswered face before after (calls_in sent)
    pub stops : StopTold face (limit_in answer) before after
    pub barred : IfErr answer (BarsOne after new)
    pub enough : IfSome (face.left before) (λ left. length (due old) ≤ left → limit_in answer ≡ None)
    pub events : has ≡ events_left (limit_in answer) (calls_in sent) had
