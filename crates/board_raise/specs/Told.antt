-- What the status of a sending tells (after KVM_IRQ_LINE_STATUS): by it alone, what the message answers, what shows and whom it reached.
use Rattle.std.specs.Prelude.{◌≡◌, ℕ, if◌then◌else◌, false, List, [], ◌∷◌, Result, Ok, Err, Some, None}
use Rattle.std.specs.declared.option.Option.{Option}
use Rattle.irq_base.specs.declared.event.Event.{Event}
use Rattle.irq_base.specs.declared.event.Event.TheVariants.{Injected, Resent, Ipi}
use Rattle.irq_base.specs.declared.message.Message.{Message}
use Rattle.irq_base.specs.declared.reply.Reply.{Reply}
use Rattle.irq_base.specs.declared.reply.Reply.TheVariants.{Signal}
use Rattle.irq_base.specs.declared.status.Status.{Status}
use Rattle.irq_base.specs.declared.status.Status.TheVariants.{Delivered, Coalesced, Ignored, Lowered}
use Rattle.lapic.specs.declared.outcome.Shorthand.{Shorthand}
use Rattle.board_model.specs.Hand.{Parts}
use Rattle.board_model.specs.Statuses.{Sent, is_empty, TargetAnswer, newly_taken, stood_already, no_effect, sets_of, status_of}
use Rattle.board_model.specs.Plan.{Heading, About, injected, resent, ipi, the_reply}
use Rattle.board_model.specs.Run.{Sending, Log, Wishes, OnParts, gives, lacks}
use Rattle.board_raise.specs.declared.lacks.Lacks.{Lacks}

-- the message, with the sender and the shorthand of an interprocessor interrupt
abbrev pub heading_of : Message → Option (ℕ × Shorthand) → Heading
heading_of message from = record { message = message; from = from }

-- the status of a message that reached these processors
abbrev pub status_told : Sent → Status
status_told sent = if is_empty sent.new then Coalesced sent.stood else Delivered sent.new sent.stood false

-- what the message answers
abbrev pub answer_in : Status → TargetAnswer
answer_in (Delivered new stood pic) = newly_taken
answer_in (Coalesced stood) = stood_already
answer_in (Ignored cause) = no_effect cause
answer_in Lowered = stood_already

-- the status of the whole signal, the GSI's 8259A pin, if it has one, having answered this
abbrev pub shown_with : Option TargetAnswer → Status → Status
shown_with pic status = status_of pic (Some (answer_in status)) (sets_of status)

-- the event that shows it
abbrev pub events_told : About → Status → List Event
events_told (injected gsi pic) status = Injected gsi (shown_with pic status) ∷ []
events_told (resent pin) status = Resent pin (shown_with None status) ∷ []
events_told ipi status = Ipi (shown_with None status) ∷ []
events_told (the_reply pic) status = []

-- the reply that shows it
abbrev pub answers_told : About → Status → List Reply
answers_told (the_reply pic) status = Signal (shown_with pic status) ∷ []
answers_told _ status = []

-- the message as it was sent; an ignored one was not
abbrev pub sendings_told : Heading → Status → List Sending
sendings_told heading (Ignored cause) = []
sendings_told heading status = record { heading = heading; sent = sets_of status } ∷ []

-- a status of a message alone: no 8259A pin took the request, and nothing was lowered
abbrev pub IsOfMessage : Status → Type 0
IsOfMessage (Delivered new stood pic) = pic ≡ false
IsOfMessage (Coalesced stood) = Unit {0}
IsOfMessage (Ignored cause) = Unit {0}
IsOfMessage Lowered = ⊥

-- the status tells what a plan gave; the parts are those that it left, and so are the wishes
pub record IsTold (heading : Heading) (about : About) (status : Status) (after : Parts) (later : Wishes)
    (given : TargetAnswer) (log : Log) (left : Parts) (others : Wishes) : Type 0 where
  pub answer : answer_in status ≡ given
  pub events : events_told about status ≡ log.events
  pub answers : answers_told about status ≡ log.answers
  pub sendings : sendings_told heading status ≡ log.sendings
  pub parts : after ≡ left
  pub wishes : later ≡ others

-- a call tells what the plan of a sending gives on the parts in hand, or it names the part that the plan lacks
abbrev pub Tells : Heading → About → Result Status Lacks → Parts → Wishes → OnParts TargetAnswer → Type 0
Tells heading about (Ok status) after later (gives answer log left wishes) = IsTold heading about status after later answer log left wishes
Tells heading about (Ok status) after later (lacks part) = ⊥
Tells heading about (Err l) after later (gives answer log left wishes) = ⊥
Tells heading about (Err l) after later (lacks part) = l.part ≡ part
