-- A message is sent, in five steps: its mode, the named processors, an illegal vector, the chosen ones, and their acceptance
-- (SDM volume 3, message-signalled interrupts, interrupt command register; what a refused message answers
-- is this board's own rule).
use Rattle.std.specs.Prelude.{ℕ, zero, suc, Bool, false, not, nat_eq, nat_lt, if◌then◌else◌, List, [], ◌∷◌, ◌++◌, filter, Some, None}
use Rattle.std.specs.declared.option.Option.{Option}
use Rattle.std.specs.FinSet as set
use Rattle.irq_bits.specs.Members.{Numbers}
use Rattle.irq_base.specs.declared.event.Event.TheVariants.{Injected, Resent, Ipi}
use Rattle.irq_base.specs.declared.message.Message.{Message}
use Rattle.irq_base.specs.declared.reply.Reply.TheVariants.{Signal}
use Rattle.irq_base.specs.declared.shape.Part.TheVariants.{Lapic}
use Rattle.irq_base.specs.declared.status.Cause.{Cause}
use Rattle.irq_base.specs.declared.status.Cause.TheVariants.{NoProcessor, BadVector, Mode as BadMode}
use Rattle.lapic.specs.declared.outcome.Shorthand.{Shorthand}
use Rattle.lapic.specs.declared.outcome.Shorthand.TheVariants.{Field, OwnOnly, All, Others}
use Rattle.lapic.specs.Messages.{is_nmi, is_taken, accepted}
use Rattle.dest_match.specs.declared.destination.TheConstants.{BROADCAST}
use Rattle.board_model.specs.Statuses.{Sent, nobody, TargetAnswer, no_effect, message_answer, status_of}
use Rattle.board_model.specs.Plan.{About, injected, resent, ipi, the_reply, Plan, done, put, choose, see, say, reply, ◌>>=◌, ◌>>◌}
use Rattle.board_model.specs.Following.{reached}
use Rattle.board_raise.specs.Named.{Processor, named_by, chosen_of, numbers_of}

-- ---- a status without a message sent

-- the status by the answer of the other target shows in an event or in the reply, no processor being reached
abbrev pub show : About → Option TargetAnswer → Plan (Unit {0})
show (injected gsi pic) other = say (Injected gsi (status_of pic other nobody))
show (resent pin) other = say (Resent pin (status_of None other nobody))
show ipi other = say (Ipi (status_of None other nobody))
show (the_reply pic) other = reply (Signal (status_of pic other nobody))

-- the message has no effect, from this cause
abbrev pub ignore : About → Cause → Plan TargetAnswer
ignore about cause = do
  show about (Some (no_effect cause))
  done (no_effect cause)

-- ---- which local APICs are looked at

-- the processors below a number, in order
abbrev pub numbers_below : ℕ → List ℕ
numbers_below zero = []
numbers_below (suc n) = numbers_below n ++ n ∷ []

-- the processor of that number alone, if there is one
abbrev pub only : ℕ → ℕ → List ℕ
only n cpus = if nat_lt n cpus then n ∷ [] else []

-- by the destination: the processor of a physical number, else every one
abbrev pub reached_by_destination : Message → ℕ → List ℕ
reached_by_destination message cpus =
    if message.logical then numbers_below cpus
    else if nat_eq message.dest BROADCAST then numbers_below cpus
    else only message.dest cpus

-- by the shorthand, where an interprocessor interrupt has one: the sender, or every one
abbrev pub reached_by : Message → Option (ℕ × Shorthand) → ℕ → List ℕ
reached_by message None cpus = reached_by_destination message cpus
reached_by message (Some (sender, Field)) cpus = reached_by_destination message cpus
reached_by message (Some (sender, OwnOnly)) cpus = only sender cpus
reached_by message (Some (sender, All)) cpus = numbers_below cpus
reached_by message (Some (sender, Others)) cpus = numbers_below cpus

-- these processors, in order
abbrev pub see_each : List ℕ → Plan (List Processor)
see_each [] = done []
see_each (n ∷ ns) = do
  apic ← see (Lapic n)
  rest ← see_each ns
  done (record { number = n; apic = apic } ∷ rest)

-- ---- who takes the request

-- whether the message's request is there already: the NMI is pending, or IRR has the vector
abbrev pub has_request : Message → Processor → Bool
has_request message p = if is_nmi message.mode then p.apic.nmi else set.contains p.apic.irr message.vector

-- the chosen processors, parted by whether the request was there before
abbrev pub parted : Message → List Processor → Sent
parted message chosen = record {
  new = numbers_of (filter (λ p. not (has_request message p)) chosen);
  stood = numbers_of (filter (has_request message) chosen);
}

-- whether the vector is illegal: an NMI has none
abbrev pub is_illegal : Message → Bool
is_illegal message = if is_nmi message.mode then false else nat_lt message.vector 16

-- of these processors, each one in the set accepts the message; a message with an illegal vector it records as an error
abbrev pub accept_each : Message → Numbers → List Processor → Plan (Unit {0})
accept_each message takers [] = done tt
accept_each message takers (p ∷ ps) =
    if set.contains takers p.number
    then put (Lapic p.number) (accepted p.apic message) (accept_each message takers ps)
    else accept_each message takers ps

-- ---- the five steps

-- steps 4 and 5: the chosen processors, under the wish that is next, show at once, and each accepts
abbrev pub deliver : Message → Option (ℕ × Shorthand) → About → List Processor → List Processor → Plan TargetAnswer
deliver message from about processors named = do
  sent ← choose (record { message = message; from = from }) about (λ wish. parted message (chosen_of message.mode wish named))
      (λ sent. done sent)
  accept_each message (reached sent) processors
  done (message_answer sent)

-- step 3: each named processor records an illegal vector
abbrev pub refuse_vector : Message → About → List Processor → List Processor → Plan TargetAnswer
refuse_vector message about processors named = do
  accept_each message (numbers_of named) processors
  ignore about BadVector

-- steps 2 to 5, for the named ones of these processors
abbrev pub send_to : Message → Option (ℕ × Shorthand) → About → List Processor → List Processor → Plan TargetAnswer
send_to message from about processors [] = ignore about NoProcessor
send_to message from about processors (p ∷ ps) =
    if is_illegal message then refuse_vector message about processors (p ∷ ps) else deliver message from about processors (p ∷ ps)

-- the message is sent on a board with so many processors; step 1: a mode that no local APIC takes is ignored; else steps 2 to
-- 5
abbrev pub send : ℕ → Message → Option (ℕ × Shorthand) → About → Plan TargetAnswer
send cpus message from about =
    if not (is_taken message.mode) then ignore about BadMode
    else do
      processors ← see_each (reached_by message from cpus)
      send_to message from about processors (named_by message from processors)
