-- A signal that is coalesced or ignored changes no request (over this board's own definitions).
use Rattle.std.specs.Prelude.{◌≡◌, ℕ, ◌+◌, Bool, true, false, not, if◌then◌else◌, ◌⊎◌, ◌↔◌, List, [], ◌∷◌, option_map, Some, None, ◌%◌, ◌<◌, nat_lt}
use Rattle.std.specs.declared.option.Option.{Option}
use Rattle.std.specs.FinSet as set
use Rattle.irq_bits.specs.Members.{Numbers}
use Rattle.irq_base.specs.declared.call.Call.{Call}
use Rattle.irq_base.specs.declared.call.Call.TheVariants.{Line, Msi, Write, Tick}
use Rattle.irq_base.specs.declared.lists.Entry.{Entry}
use Rattle.irq_base.specs.declared.message.Message.{Message}
use Rattle.irq_base.specs.declared.message.MsiWord.{MsiWord}
use Rattle.irq_base.specs.declared.message.Targets.{Targets}
use Rattle.irq_base.specs.declared.reply.Reply.TheVariants.{Signal}
use Rattle.irq_base.specs.declared.shape.Part.TheVariants.{Lapic}
use Rattle.irq_base.specs.declared.shape.Shape.{Shape}
use Rattle.irq_base.specs.declared.status.Cause.{Cause}
use Rattle.irq_base.specs.declared.status.Cause.TheVariants.{Masked, NoProcessor, BadVector, Mode, Unrouted}
use Rattle.irq_base.specs.declared.status.Status.{Status}
use Rattle.irq_base.specs.declared.status.Status.TheVariants.{Coalesced, Ignored}
use Rattle.pic_8259a.specs.Pair.{pin_outcome}
use Rattle.ioapic_82093aa.specs.declared.entry.Entry.{Entry as Redirection}
use Rattle.ioapic_82093aa.specs.declared.ioapic.Raise.{Raise}
use Rattle.ioapic_82093aa.specs.declared.ioapic.Raise.TheVariants as raises
use Rattle.ioapic_82093aa.specs.Pins.{entry_at, raise_of}
use Rattle.lapic.specs.Messages.{is_taken}
use Rattle.msi_decode.specs.Messages.{message_in}
use Rattle.source_levels.specs.Holds.{is_high}
use Rattle.board_model.specs.Board.{Board, part_of}
use Rattle.board_model.specs.Chips.{PicChip, PicPart, IoapicPart, pair_of, ioapic_of}
use Rattle.board_model.specs.Routing.{Routing, routing_of_registry}
use Rattle.board_model.specs.Statuses.{TargetAnswer, newly_taken, stood_already, no_effect, first_cause}
use Rattle.board_raise.specs.Named.{Processor}
use Rattle.board_raise.specs.Send.{is_illegal}
use Rattle.board_raise.specs.Signal.{pic_answer}
use Rattle.board_raise.specs.Laws.{named_on, HasProcessors, has_request_on}
use Rattle.board_step.specs.Step.{Step}
use Rattle.board_step.specs.Sound.{LapicsStand}
use Rattle.board_laws.specs.Points.{AtEachEntry}

-- the message target alone
abbrev pub message_target : ℕ → ℕ → Targets
message_target address payload = record { pic = None; ioapic = None; msi = Some (record { address = address; payload = payload }) }

-- the targets of a call that is answered with a status
abbrev pub signal_targets : Routing → Shape → Call → Option Targets
signal_targets routing shape (Line gsi line high) = Some (routing.targets gsi)
signal_targets routing shape (Msi address payload) = Some (message_target address payload)
signal_targets routing shape (Write counter n) = option_map (λ trigger. routing.targets trigger.gsi) (routing.trigger counter)
signal_targets routing shape Tick = Some (routing.targets shape.tick)
signal_targets routing shape _ = None

-- the message that a pin of the I/O APIC sends, if it sends one
abbrev pub message_raised : Raise → Option Message
message_raised (raises.Send message) = Some message
message_raised _ = None

-- the message that goes to the local APICs, if one does
abbrev pub message_on : Board → Option ℕ → Option MsiWord → Option Message
message_on b (Some pin) msi = message_raised (raise_of (ioapic_of b.ioapic) pin)
message_on b None (Some word) = Some (message_in word.address word.payload)
message_on b None None = None

-- the 8259A that has a pin of the pair: the master has the pins 0 to 7, the slave 8 to 15 as its levels 0 to 7
abbrev pub chip_with_pin : PicPart → ℕ → PicChip
chip_with_pin pic pin = if nat_lt pin 8 then pic.master else pic.slave

-- whether the 8259A masks the pin, by its bit of the IMR
abbrev pub is_pic_masked : PicPart → ℕ → Bool
is_pic_masked pic pin = set.contains (chip_with_pin pic pin).imr (pin % 8)

-- the line on which a pin of the pair is: that of a master pin, or of a level of the slave
abbrev pub line_of : ℕ → ℕ
line_of pin = if nat_lt pin 8 then pin else pin % 8 + 8

-- each pin of the pair is on the line of its own number
abbrev pub PicPinsHaveTheirLines : Type 0
PicPinsHaveTheirLines = (pin : ℕ) → pin < 16 → line_of pin ≡ pin

-- whether the line of a pin of the pair is high: some source holds it
abbrev pub is_pic_high : PicPart → ℕ → Bool
is_pic_high pic pin = is_high pic.holds (line_of pin)

-- the pin is edge-triggered, and its request is in the latch
pub record IsLatched (pic : PicPart) (pin : ℕ) : Type 0 where
  pub edge : set.contains (chip_with_pin pic pin).elcr (pin % 8) ≡ false
  pub latched : set.contains (chip_with_pin pic pin).latches (pin % 8) ≡ true

-- the 8259A pin was not masked, and its line was high or its request stood in the latch
pub record PicStood (b : Board) (targets : Targets) : Type 0 where
  pub pin : ℕ
  pub there : targets.pic ≡ Some pin
  pub unmasked : is_pic_masked b.pic pin ≡ false
  pub stood : (is_pic_high b.pic pin ≡ true) ⊎ IsLatched b.pic pin

-- the redirection entry of a pin of the I/O APIC
abbrev pub redirection_of : IoapicPart → ℕ → Redirection
redirection_of part pin = entry_at (ioapic_of part) pin

-- the pin is level-triggered, and its remote IRR is set
pub record HasRemoteIrr (part : IoapicPart) (pin : ℕ) : Type 0 where
  pub level : (redirection_of part pin).level ≡ true
  pub remote_irr : (redirection_of part pin).remote_irr ≡ true

-- the pin is edge-triggered, and its line is high: some source holds it
pub record IsEdgeHigh (part : IoapicPart) (pin : ℕ) : Type 0 where
  pub edge : (redirection_of part pin).level ≡ false
  pub high : is_high part.holds pin ≡ true

-- the I/O APIC pin was not masked, and its remote IRR was set or, edge-triggered, its line was high
pub record IoapicStood (b : Board) (targets : Targets) : Type 0 where
  pub pin : ℕ
  pub there : targets.ioapic ≡ Some pin
  pub unmasked : (redirection_of b.ioapic pin).masked ≡ false
  pub stood : HasRemoteIrr b.ioapic pin ⊎ IsEdgeHigh b.ioapic pin

-- a processor that the message reached had the request already
pub record RequestStood (b : Board) (targets : Targets) (stood : Numbers) : Type 0 where
  pub message : Message
  pub sent : message_on b targets.ioapic targets.msi ≡ Some message
  pub processor : ℕ
  pub reached : set.contains stood processor ≡ true
  pub had : has_request_on b message processor ≡ true

-- what the 8259A pin answers, if there is one
abbrev pub pic_answer_on : Board → Option ℕ → Option TargetAnswer
pic_answer_on b None = None
pic_answer_on b (Some pin) = Some (pic_answer (pin_outcome (pair_of b.pic) pin true))

-- what a message answers that names these processors, but for whether its request stood
abbrev pub message_answer_by : Message → List Processor → TargetAnswer
message_answer_by message [] = no_effect NoProcessor
message_answer_by message (p ∷ ps) = if is_illegal message then no_effect BadVector else newly_taken

-- the same, by its mode
abbrev pub message_answer_on : Board → ℕ → Message → TargetAnswer
message_answer_on b cpus message =
    if not (is_taken message.mode) then no_effect Mode else message_answer_by message (named_on b cpus message None)

-- what a pin of the I/O APIC answers
abbrev pub raise_answer_on : Board → ℕ → Raise → TargetAnswer
raise_answer_on b cpus raises.Masked = no_effect Masked
raise_answer_on b cpus raises.Stood = stood_already
raise_answer_on b cpus (raises.Send message) = message_answer_on b cpus message

-- what the other target answers, if there is one
abbrev pub other_answer_on : Board → ℕ → Option ℕ → Option MsiWord → Option TargetAnswer
other_answer_on b cpus (Some pin) msi = Some (raise_answer_on b cpus (raise_of (ioapic_of b.ioapic) pin))
other_answer_on b cpus None (Some word) = Some (message_answer_on b cpus (message_in word.address word.payload))
other_answer_on b cpus None None = None

-- the cause why a signal to these targets has no effect: the first in the order 8259A, I/O APIC, message
abbrev pub cause_on : Board → Targets → Cause
cause_on b targets = first_cause (pic_answer_on b targets.pic) (other_answer_on b b.shape.cpus targets.ioapic targets.msi)

-- whether a target is not there, or has no effect
abbrev pub lacks_effect : Option TargetAnswer → Bool
lacks_effect None = true
lacks_effect (Some (no_effect cause)) = true
lacks_effect (Some answer) = false

-- there is no target
pub record HasNoTarget (targets : Targets) : Type 0 where
  pub pic : targets.pic ≡ None
  pub ioapic : targets.ioapic ≡ None
  pub msi : targets.msi ≡ None

-- at no target was the signal taken, nor did its request stand; the cause is the first of theirs, and Unrouted exactly where there
-- is no target
pub record IsIgnoredFor (b : Board) (targets : Targets) (cause : Cause) : Type 0 where
  pub pic : lacks_effect (pic_answer_on b targets.pic) ≡ true
  pub other : lacks_effect (other_answer_on b b.shape.cpus targets.ioapic targets.msi) ≡ true
  pub first : cause ≡ cause_on b targets
  pub unrouted : (cause ≡ Unrouted) ↔ HasNoTarget targets

-- what a status says of its targets: Coalesced, that at some target the line was high, the request stood or remote IRR was
-- set; Ignored, why none has an effect
abbrev pub IsSaidOf : Board → Targets → Status → Type 0
IsSaidOf b targets (Coalesced stood) = PicStood b targets ⊎ (IoapicStood b targets ⊎ RequestStood b targets stood)
IsSaidOf b targets (Ignored cause) = IsIgnoredFor b targets cause
IsSaidOf b targets _ = Unit {0}

-- a status without effect
abbrev pub is_without_effect : Status → Bool
is_without_effect (Coalesced stood) = true
is_without_effect (Ignored cause) = true
is_without_effect _ = false

-- no processor's requests changed
abbrev pub SameRequests : Board → Board → Type 0
SameRequests b c = (n : ℕ) → (part_of c (Lapic n)).irr ≡ (part_of b (Lapic n)).irr

-- a status without effect that is replied: it is said of the targets of the call, and every IRR is as before
pub record ChangesNoRequest (b : Board) (e : Entry) (c : Board) (status : Status) : Type 0 where
  pub targets : Targets
  pub signalled : signal_targets (routing_of_registry b.registry b.shape.tick) b.shape e.call ≡ Some targets
  pub said : IsSaidOf b targets status
  pub requests : SameRequests b c

-- so it is of an entry, whatever status without effect it replies
abbrev pub EffectlessChangesNoRequest : Board → Entry → Board → Type 0
EffectlessChangesNoRequest b e c =
    (status : Status) → e.reply ≡ Signal status → is_without_effect status ≡ true → ChangesNoRequest b e c status

-- so it is in each step from a board on which each processor has a local APIC with its number
abbrev pub CoalescedAndIgnoredChangeNoRequest : Type 0
CoalescedAndIgnoredChangeNoRequest =
    (b : Board) (e : Entry) (c : Board) → HasProcessors b b.shape.cpus → Step b e c → EffectlessChangesNoRequest b e c

-- a step keeps a local APIC for each processor, with its number
abbrev pub LapicsStayInPlace : Type 0
LapicsStayInPlace = (b : Board) (e : Entry) (c : Board) → LapicsStand b → Step b e c → LapicsStand c

-- so it is at each entry of a history
abbrev pub StatusesWithoutEffectChangeNoRequest : Shape → List Entry → Type 0
StatusesWithoutEffectChangeNoRequest = AtEachEntry EffectlessChangesNoRequest

-- the 8259A pin was masked, by its bit of the IMR
pub record PicMasked (b : Board) (targets : Targets) : Type 0 where
  pub pin : ℕ
  pub there : targets.pic ≡ Some pin
  pub masked : is_pic_masked b.pic pin ≡ true

-- the I/O APIC pin was masked, by its redirection entry
pub record IoapicMasked (b : Board) (targets : Targets) : Type 0 where
  pub pin : ℕ
  pub there : targets.ioapic ≡ Some pin
  pub masked : (redirection_of b.ioapic pin).masked ≡ true

-- a call has targets, and a pin of them was masked
pub record MeetsMask (b : Board) (e : Entry) : Type 0 where
  pub targets : Targets
  pub signalled : signal_targets (routing_of_registry b.registry b.shape.tick) b.shape e.call ≡ Some targets
  pub masked : PicMasked b targets ⊎ IoapicMasked b targets

-- the cause Masked is replied only where a pin of the targets was masked
abbrev pub MaskedMeetsMask : Board → Entry → Board → Type 0
MaskedMeetsMask b e c = e.reply ≡ Signal (Ignored Masked) → MeetsMask b e

-- so it is at each entry of a history
abbrev pub IgnoredMaskedIsMasked : Shape → List Entry → Type 0
IgnoredMaskedIsMasked = AtEachEntry MaskedMeetsMask
