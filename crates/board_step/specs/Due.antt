-- What a processor would be given now (SDM volume 3, interrupt acceptance; virtual wire mode through LINT0).
use Rattle.std.specs.Prelude.{◌≡◌, ℕ, ◌&&◌, if◌then◌else◌, [], ◌∷◌, Some, None}
use Rattle.std.specs.declared.option.Option.{Option}
use Rattle.irq_base.specs.declared.call.Call.TheVariants.{Ack}
use Rattle.irq_base.specs.declared.call.Caller.TheVariants.{Cpu}
use Rattle.irq_base.specs.declared.reply.Reply.{Reply}
use Rattle.irq_base.specs.declared.reply.Reply.TheVariants as replies
use Rattle.pic_8259a.specs.declared.pair.Pair.{Pair}
use Rattle.pic_8259a.specs.Pair.{has_output}
use Rattle.lapic.specs.Registers.{LocalApic}
use Rattle.lapic.specs.Priority.{giveable_of}
use Rattle.board_model.specs.Board.{Board}
use Rattle.board_model.specs.Run.{Wishes, run}
use Rattle.board_step.specs.declared.due.Due.{Due}
use Rattle.board_step.specs.declared.due.Due.TheVariants as dues
use Rattle.board_calls.specs.Processors.{hears_pair}
use Rattle.board_step.specs.Step.{plan_on}

-- what the local APIC would give
abbrev pub given_due : Option ℕ → Due
given_due None = dues.None
given_due (Some vector) = dues.Vector vector

-- what a processor would be given: a pending NMI, else an interrupt of the pair through LINT0, else what its local APIC gives
abbrev pub due_by : ℕ → LocalApic → Pair → Due
due_by n apic pair =
    if apic.nmi then dues.Nmi
    else if hears_pair n apic && has_output pair then dues.Extint
    else given_due (giveable_of apic)

-- what it would be given by what is in hand; nothing where its local APIC or the pair is not
abbrev pub due_in : ℕ → Option LocalApic → Option Pair → Due
due_in n (Some apic) (Some pair) = due_by n apic pair
due_in n _ _ = dues.None

-- the reply is what was due; of an interrupt of the pair any vector
abbrev pub IsDue : Due → Reply → Type 0
IsDue dues.None replies.Nothing = Unit {0}
IsDue dues.Nmi replies.Nmi = Unit {0}
IsDue dues.Extint (replies.Extint vector) = Unit {0}
IsDue (dues.Vector due) (replies.Vector vector) = due ≡ vector
IsDue _ _ = ⊥

-- the processor's Ack answers once, whatever is wished, and answers what is due
pub record AnswersDue (b : Board) (n : ℕ) (due : Due) (ws : Wishes) : Type 0 where
  pub reply : Reply
  pub answers : (run (plan_on b (Cpu n) Ack) b ws).log.answers ≡ reply ∷ []
  pub is_due : IsDue due reply
