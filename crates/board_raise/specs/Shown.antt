-- What a signal tells on the parts in hand (after KVM_IRQ_LINE_STATUS): its status alone tells what shows of its plan and with
-- which value that ends.
use Rattle.std.specs.Prelude.{◌≡◌, ℕ, Bool, true, List, [], ◌∷◌, Result, Ok, Err, Some, None, option_map}
use Rattle.std.specs.declared.option.Option.{Option}
use Rattle.std.specs.FinSet as set
use Rattle.irq_base.specs.declared.event.Event.{Event}
use Rattle.irq_base.specs.declared.event.Event.TheVariants.{Injected}
use Rattle.irq_base.specs.declared.reply.Reply.{Reply}
use Rattle.irq_base.specs.declared.reply.Reply.TheVariants.{Signal}
use Rattle.irq_base.specs.declared.shape.Part.{Part}
use Rattle.irq_base.specs.declared.status.Status.{Status}
use Rattle.irq_base.specs.declared.status.Status.TheVariants.{Delivered, Coalesced, Ignored, Lowered}
use Rattle.board_model.specs.Board.{Board}
use Rattle.board_model.specs.Hand.{Parts, part_in}
use Rattle.board_model.specs.Statuses.{Sent, nobody, TargetAnswer, sets_of, status_of}
use Rattle.board_model.specs.Plan.{About, injected, the_reply}
use Rattle.board_model.specs.Run.{Log, Wishes, OnParts, gives, lacks}
use Rattle.board_model.specs.Agreement.{Agrees, HoldsReached}
use Rattle.board_raise.specs.declared.lacks.Lacks.{Lacks}
use Rattle.board_raise.specs.Told.{answer_in, events_told, answers_told}

-- ---- a plan on the parts in hand

-- it ended with this value, told these events, gave these replies, and left these parts and wishes
pub record IsEnd {A : Type 0} (value : A) (events : List Event) (replies : List Reply) (after : Parts) (later : Wishes)
    (given : A) (log : Log) (left : Parts) (others : Wishes) : Type 0 where
  pub value_is : value ≡ given
  pub events_are : events ≡ log.events
  pub replies_are : replies ≡ log.answers
  pub parts : after ≡ left
  pub wishes : later ≡ others

abbrev pub EndsWith : {A : Type 0} → A → List Event → List Reply → Parts → Wishes → OnParts A → Type 0
EndsWith value events replies after later (gives given log left others) = IsEnd value events replies after later given log left others
EndsWith value events replies after later (lacks part) = ⊥

-- it lacked this part
abbrev pub StopsAt : {A : Type 0} → Part → OnParts A → Type 0
StopsAt part (gives given log left others) = ⊥
StopsAt part (lacks other) = part ≡ other

-- a call did what the plan gives, whose value is this of what the call answered, and nothing showed; or it names what the
-- plan lacks
abbrev pub DoesQuietly : {S A : Type 0} → (S → A) → Result S Lacks → Parts → Wishes → OnParts A → Type 0
DoesQuietly value (Ok answer) after later o = EndsWith (value answer) [] [] after later o
DoesQuietly value (Err l) after later o = StopsAt l.part o

-- the same of a plan without a value
abbrev pub Leaves : {S : Type 0} → Result S Lacks → Parts → Wishes → OnParts (Unit {0}) → Type 0
Leaves result after later o = DoesQuietly (λ _. tt) result after later o

-- ---- where a status shows

-- where the status of a signal shows: in the reply, or in the event of an injection on this GSI
pub data Place : Type 0 where
  in_reply : Place
  in_event : ℕ → Place

-- the same for a plan, the GSI's 8259A pin, if it has one, having answered this
abbrev pub about_at : Place → Option TargetAnswer → About
about_at in_reply pic = the_reply pic
about_at (in_event gsi) pic = injected gsi pic

-- the event that shows a status there
abbrev pub events_at : Place → Status → List Event
events_at in_reply status = []
events_at (in_event gsi) status = Injected gsi status ∷ []

-- the reply that shows it
abbrev pub replies_at : Place → Status → List Reply
replies_at in_reply status = Signal status ∷ []
replies_at (in_event gsi) status = []

-- the status but for the processors that were reached
abbrev pub without_sets : Status → Status
without_sets (Delivered new stood pic) = Delivered set.empty set.empty pic
without_sets (Coalesced stood) = Coalesced set.empty
without_sets (Ignored cause) = Ignored cause
without_sets Lowered = Lowered

-- a signal tells by its status what its plan gives, or it names the part that the plan lacks
abbrev pub Shows : Place → Result Status Lacks → Parts → Wishes → OnParts Status → Type 0
Shows place (Ok status) after later o = EndsWith (without_sets status) (events_at place status) (replies_at place status) after later o
Shows place (Err l) after later o = StopsAt l.part o

-- ---- one target of a signal

-- the processors that the other target reached, by its own status
abbrev pub sets_beside : Option Status → Sent
sets_beside None = nobody
sets_beside (Some status) = sets_of status

-- the status of a signal, by what its 8259A pin answers and by the other target's own status
abbrev pub shown_beside : Option TargetAnswer → Option Status → Status
shown_beside pic other = status_of pic (option_map answer_in other) (sets_beside other)

-- the other target, by its own status, beside what the 8259A pin answered
abbrev pub ShowsBeside :
    Place → Option TargetAnswer → Result (Option Status) Lacks → Parts → Wishes → OnParts (Option TargetAnswer) → Type 0
ShowsBeside place pic (Ok other) after later o =
    EndsWith (option_map answer_in other) (events_at place (shown_beside pic other)) (replies_at place (shown_beside pic other))
    after later o
ShowsBeside place pic (Err l) after later o = StopsAt l.part o

-- one target that is there
abbrev pub as_other : Result Status Lacks → Result (Option Status) Lacks
as_other (Ok status) = Ok (Some status)
as_other (Err l) = Err l

-- a message that a pin sends, by its status
abbrev pub ShowsSent : About → Result Status Lacks → Parts → Wishes → OnParts TargetAnswer → Type 0
ShowsSent about (Ok status) after later o = EndsWith (answer_in status) (events_told about status) (answers_told about status) after later o
ShowsSent about (Err l) after later o = StopsAt l.part o

-- ---- what is lacking

-- the part is not in hand, and it is reached on every board of which the parts in hand are
pub record IsNeeded (part : Part) (q : Parts) (reach : Board → Part → Bool) : Type 0 where
  pub lacking : part_in q part ≡ None
  pub reached : (b : Board) → Agrees q b → reach b part ≡ true

-- all that is reached on a board of which the parts in hand are, is in hand
abbrev pub HoldsNeeded : Parts → (Board → Part → Bool) → Type 0
HoldsNeeded q reach = (b : Board) → Agrees q b → HoldsReached q (reach b)
