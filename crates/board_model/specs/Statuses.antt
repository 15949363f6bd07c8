-- The status of a signal (after KVM_IRQ_LINE_STATUS), and the sets of processors that it shows.
use Rattle.std.specs.Prelude.{Bool, true, false, ◌||◌, nat_eq, if◌then◌else◌, Some}
use Rattle.std.specs.declared.option.Option.{Option}
use Rattle.std.specs.FinSet as set
use Rattle.irq_bits.specs.Members.{Numbers}
use Rattle.irq_base.specs.declared.status.Cause.{Cause}
use Rattle.irq_base.specs.declared.status.Cause.TheVariants.{Unrouted}
use Rattle.irq_base.specs.declared.status.Status.{Status}
use Rattle.irq_base.specs.declared.status.Status.TheVariants.{Delivered, Coalesced, Ignored, Lowered}

-- the processors that a message reached: newly, and where its request stood already
pub record Sent : Type 0 where
  pub new : Numbers
  pub stood : Numbers

-- nothing was sent
abbrev pub nobody : Sent
nobody = record { new = set.empty; stood = set.empty }

-- what a target of a signal answers: it newly took the request, the request stood there already, or a cause why it has no
-- effect there
pub data TargetAnswer : Type 0 where
  newly_taken : TargetAnswer
  stood_already : TargetAnswer
  no_effect : Cause → TargetAnswer

-- whether a set has no member
abbrev pub is_empty : Numbers → Bool
is_empty s = nat_eq (set.len s) 0

-- what a message that was sent answers: it is newly taken where some processor newly took it
abbrev pub message_answer : Sent → TargetAnswer
message_answer sent = if is_empty sent.new then stood_already else newly_taken

-- whether there is such a target, and it newly took the request
abbrev pub took : Option TargetAnswer → Bool
took (Some newly_taken) = true
took _ = false

-- whether there is such a target, and the request stood there already
abbrev pub stands : Option TargetAnswer → Bool
stands (Some stood_already) = true
stands _ = false

-- the first cause, the 8259A's before the other target's; a GSI without a target is not routed
abbrev pub first_cause : Option TargetAnswer → Option TargetAnswer → Cause
first_cause (Some (no_effect cause)) other = cause
first_cause pic (Some (no_effect cause)) = cause
first_cause pic other = Unrouted

-- the status by the answers of the 8259A pin and of the other target, which is an I/O APIC pin or a message: Delivered where
-- one newly took the request, else Coalesced where it stood at one, else Ignored with the first cause
abbrev pub status_of : Option TargetAnswer → Option TargetAnswer → Sent → Status
status_of pic other sent =
    if took pic || took other then Delivered sent.new sent.stood (took pic)
    else if stands pic || stands other then Coalesced sent.stood
    else Ignored (first_cause pic other)

-- the status where a message was sent; an I/O APIC pin that sends answers as its message does
abbrev pub status_sent : Option TargetAnswer → Sent → Status
status_sent pic sent = status_of pic (Some (message_answer sent)) sent

-- the sets that a status shows
abbrev pub sets_of : Status → Sent
sets_of (Delivered new stood pic) = record { new = new; stood = stood }
sets_of (Coalesced stood) = record { new = set.empty; stood = stood }
sets_of (Ignored cause) = nobody
sets_of Lowered = nobody
