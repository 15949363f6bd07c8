-- A GSI is raised, lowered or injected (KVM API, KVM_IRQ_LINE_STATUS and KVM_IRQFD).
use Rattle.std.specs.Prelude.{ℕ, Bool, true, false, Some, None}
use Rattle.std.specs.declared.option.Option.{Option}
use Rattle.std.specs.FinSet as set
use Rattle.irq_base.specs.declared.message.Message.{Message}
use Rattle.irq_base.specs.declared.message.MsiWord.{MsiWord}
use Rattle.irq_base.specs.declared.message.Source.{Source}
use Rattle.irq_base.specs.declared.message.Source.TheVariants.{Resample}
use Rattle.irq_base.specs.declared.message.Targets.{Targets}
use Rattle.irq_base.specs.declared.reply.Reply.TheVariants.{Signal}
use Rattle.irq_base.specs.declared.shape.Part.TheVariants.{Pic, Ioapic}
use Rattle.irq_base.specs.declared.status.Cause.TheVariants.{Masked, Unrouted}
use Rattle.irq_base.specs.declared.status.Status.{Status}
use Rattle.irq_base.specs.declared.status.Status.TheVariants.{Ignored, Lowered}
use Rattle.pic_8259a.specs.declared.chip.PinOutcome.{PinOutcome}
use Rattle.pic_8259a.specs.declared.chip.PinOutcome.TheVariants as outcomes
use Rattle.pic_8259a.specs.Pair.{pin_set, pin_outcome}
use Rattle.ioapic_82093aa.specs.declared.ioapic.Raise.{Raise}
use Rattle.ioapic_82093aa.specs.declared.ioapic.Raise.TheVariants as raises
use Rattle.ioapic_82093aa.specs.Pins.{raise_of, pin_accepted}
use Rattle.msi_decode.specs.Messages.{message_in}
use Rattle.source_levels.specs.Holds.{hold}
use Rattle.board_model.specs.Chips.{PicPart, pair_of, with_pair, IoapicPart, ioapic_of, with_ioapic}
use Rattle.board_model.specs.Statuses.{nobody, TargetAnswer, newly_taken, stood_already, no_effect, status_of}
use Rattle.board_model.specs.Plan.{About, Plan, done, see, set as put_part, change, reply, ◌>>=◌, ◌>>◌}
use Rattle.board_raise.specs.Send.{show, send}

-- ---- the pin of the 8259A pair

-- the source holds the pin as well, and so the pin is high
abbrev pub pic_raised : PicPart → ℕ → Source → PicPart
pic_raised pic pin source = record (with_pair pic (pin_set (pair_of pic) pin true)) { holds = set.insert pic.holds (hold pin source) }

-- the source holds the pin no longer; a pin with no hold left is low
abbrev pub pic_let_go : PicPart → ℕ → Source → PicPart
pic_let_go pic pin source = record pic { holds = set.remove pic.holds (hold pin source) }

-- what the 8259A's answer is to a raise, which is never answered as lowered
abbrev pub pic_answer : PinOutcome → TargetAnswer
pic_answer outcomes.New = newly_taken
pic_answer outcomes.Stood = stood_already
pic_answer outcomes.Masked = no_effect Masked
pic_answer outcomes.Lowered = stood_already

-- the 8259A pin of the GSI is raised, if it has one
abbrev pub raise_pic : Option ℕ → Source → Plan (Option TargetAnswer)
raise_pic None source = done None
raise_pic (Some pin) source = do
  pic ← see Pic
  put_part Pic (pic_raised pic pin source)
  done (Some (pic_answer (pin_outcome (pair_of pic) pin true)))

-- ---- the pin of the I/O APIC

-- the source holds the pin as well, and so the pin is high
abbrev pub ioapic_raised : IoapicPart → ℕ → Source → IoapicPart
ioapic_raised part pin source = record part { holds = set.insert part.holds (hold pin source) }

-- the source holds the pin no longer; a pin with no hold left is low
abbrev pub ioapic_let_go : IoapicPart → ℕ → Source → IoapicPart
ioapic_let_go part pin source = record part { holds = set.remove part.holds (hold pin source) }

-- the I/O APIC pin is raised, and the value is what came of it
abbrev pub raise_ioapic : ℕ → Source → Plan Raise
raise_ioapic pin source = do
  part ← see Ioapic
  put_part Ioapic (ioapic_raised part pin source)
  done (raise_of (ioapic_of part) pin)

-- whether processors took a level-triggered message, newly or again; an NMI is none
abbrev pub is_accepted : Message → TargetAnswer → Bool
is_accepted message (no_effect cause) = false
is_accepted message answer = message.level

-- remote IRR of the pin is set where that is so
abbrev pub accept_pin : ℕ → Bool → Plan (Unit {0})
accept_pin pin true = change Ioapic (λ part. with_ioapic part (pin_accepted (ioapic_of part) pin))
accept_pin pin false = done tt

-- a pin sends a message, and the value is what that answers; remote IRR is set where processors took a level-triggered one
abbrev pub send_of_pin : ℕ → ℕ → Message → About → Plan TargetAnswer
send_of_pin cpus pin message about = do
  answer ← send cpus message None about
  accept_pin pin (is_accepted message answer)
  done answer

-- a target answers without a message sent, and the status shows
abbrev pub answer_shown : About → Option TargetAnswer → Plan (Option TargetAnswer)
answer_shown about answer = do
  show about answer
  done answer

-- what the pin answers: masked, or its request stood, or it sends the message of its entry
abbrev pub ioapic_answered : ℕ → ℕ → About → Raise → Plan (Option TargetAnswer)
ioapic_answered cpus pin about raises.Masked = answer_shown about (Some (no_effect Masked))
ioapic_answered cpus pin about raises.Stood = answer_shown about (Some stood_already)
ioapic_answered cpus pin about (raises.Send message) = do
  answer ← send cpus message None about
  accept_pin pin (is_accepted message answer)
  done (Some answer)

-- ---- raise

-- the other target: a pin of the I/O APIC, or a message, which is sent at each raise, or none
abbrev pub raise_other : ℕ → Option ℕ → Option MsiWord → Source → About → Plan (Option TargetAnswer)
raise_other cpus (Some pin) msi source about = do
  answer ← raise_ioapic pin source
  ioapic_answered cpus pin about answer
raise_other cpus None (Some word) source about = do
  answer ← send cpus (message_in word.address word.payload) None about
  done (Some answer)
raise_other cpus None None source about = answer_shown about None

-- a signal is raised on all targets of its GSI, the 8259A pin first; its status shows where `about` says, with what the
-- 8259A pin answered; the plan ends with that status but for the processors that were reached
abbrev pub raise : ℕ → Targets → Source → (Option TargetAnswer → About) → Plan Status
raise cpus targets source about = do
  pic ← raise_pic targets.pic source
  other ← raise_other cpus targets.ioapic targets.msi source (about pic)
  done (status_of pic other nobody)

-- ---- lower

abbrev pub let_go_pic : Option ℕ → Source → Plan (Unit {0})
let_go_pic None source = done tt
let_go_pic (Some pin) source = change Pic (λ pic. pic_let_go pic pin source)

abbrev pub let_go_ioapic : Option ℕ → Source → Plan (Unit {0})
let_go_ioapic None source = done tt
let_go_ioapic (Some pin) source = change Ioapic (λ part. ioapic_let_go part pin source)

-- the source holds no pin of the targets any longer, whether it held them or not
abbrev pub let_go : Targets → Source → Plan (Unit {0})
let_go targets source = do
  let_go_pic targets.pic source
  let_go_ioapic targets.ioapic source

-- the status of a lowered signal, also of a message; a GSI without targets is not routed
abbrev pub lowered_status : Option ℕ → Option ℕ → Option MsiWord → Status
lowered_status None None None = Ignored Unrouted
lowered_status pic ioapic msi = Lowered

-- a signal is lowered on all targets of its GSI, and the reply is its status
abbrev pub lower : Targets → Source → Plan (Unit {0})
lower targets source = do
  let_go targets source
  reply (Signal (lowered_status targets.pic targets.ioapic targets.msi))

-- ---- inject

-- after the raise of an injection the source lets go, but for a resampler, which holds until an acknowledge
abbrev pub let_go_after : Targets → Source → Plan (Unit {0})
let_go_after targets Resample = done tt
let_go_after targets source = let_go targets source

-- a signal is raised and lowered at once, with the status of the raise; one by a resampler is raised alone
abbrev pub inject : ℕ → Targets → Source → (Option TargetAnswer → About) → Plan Status
inject cpus targets source about = do
  status ← raise cpus targets source about
  let_go_after targets source
  done status
