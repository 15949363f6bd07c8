-- How callers, statuses, refusals, events and causes are spelled.
use Rattle.std.specs.Prelude.{ℕ, false, List, ◌++◌, codes, if◌then◌else◌, Some, None}
use Rattle.std.specs.Fmt.{digits, decimal}
use Rattle.irq_bits.specs.Members.{Numbers, word_of}
use Rattle.irq_bits.specs.declared.limits.TheConstants.{MAX_CPUS}
use Rattle.irq_base.specs.declared.call.Caller.{Caller}
use Rattle.irq_base.specs.declared.call.Caller.TheVariants.{Device, Cpu}
use Rattle.irq_base.specs.declared.status.Cause.{Cause}
use Rattle.irq_base.specs.declared.status.Cause.TheVariants.{Masked, Unrouted, NoProcessor, BadVector, Mode}
use Rattle.irq_base.specs.declared.status.Status.{Status}
use Rattle.irq_base.specs.declared.status.Status.TheVariants.{Delivered, Coalesced, Ignored, Lowered}
use Rattle.irq_base.specs.declared.refusal.Refusal.{Refusal}
use Rattle.irq_base.specs.Refusals.{refusal_number, refusal_word}
use Rattle.irq_base.specs.declared.event.Pin.{Pin}
use Rattle.irq_base.specs.declared.event.Pin.TheVariants.{Pic, Ioapic}
use Rattle.irq_base.specs.declared.event.Event.{Event}
use Rattle.irq_base.specs.declared.event.Event.TheVariants.{Acked, Resampled, Watched, Rang, Injected, Resent, Ipi}
use Rattle.irq_base.specs.declared.fault.LineCause.{LineCause}
use Rattle.irq_base.specs.declared.fault.LineCause.TheVariants.{Cut, Char, End, Word, Count, Number, Actor}

-- lower-case hexadecimal, with no leading zeros
abbrev pub hex : ℕ → List ℕ
hex n = digits 16 false n

abbrev pub caller_text : Caller → List ℕ
caller_text (Device d) = codes "dev" ++ decimal d
caller_text (Cpu n) = codes "cpu" ++ decimal n

abbrev pub cause_text : Cause → List ℕ
cause_text Masked = codes "masked"
cause_text Unrouted = codes "unrouted"
cause_text NoProcessor = codes "no-processor"
cause_text BadVector = codes "bad-vector"
cause_text Mode = codes "mode"

-- a set of processors is spelled as its word in hexadecimal
abbrev pub set_text : Numbers → List ℕ
set_text s = hex (word_of MAX_CPUS s)

abbrev pub status_text : Status → List ℕ
status_text (Delivered new stood pic) =
    codes "delivered new="
    ++ (set_text new ++ (codes " stood=" ++ (set_text stood ++ (codes " pic=" ++ decimal (if pic then 1 else 0)))))
status_text (Coalesced stood) = codes "coalesced stood=" ++ set_text stood
status_text (Ignored cause) = codes "ignored " ++ cause_text cause
status_text Lowered = codes "lowered"

-- the number of a refusal, and its word
abbrev pub refusal_text : Refusal → List ℕ
refusal_text refusal = decimal (refusal_number refusal) ++ (codes " " ++ refusal_word refusal)

abbrev pub pin_text : Pin → List ℕ
pin_text (Pic n) = codes "pic " ++ decimal n
pin_text (Ioapic n) = codes "io " ++ decimal n

abbrev pub event_text : Event → List ℕ
event_text (Acked pin (Some gsi)) = codes "acked " ++ (pin_text pin ++ (codes " gsi " ++ decimal gsi))
event_text (Acked pin None) = codes "acked " ++ (pin_text pin ++ codes " gsi -")
event_text (Resampled counter) = codes "resampled " ++ decimal counter
event_text (Watched counter) = codes "watched " ++ decimal counter
event_text (Rang counter) = codes "rang " ++ decimal counter
event_text (Injected gsi status) = codes "injected gsi " ++ (decimal gsi ++ (codes " " ++ status_text status))
event_text (Resent pin status) = codes "resent " ++ (decimal pin ++ (codes " " ++ status_text status))
event_text (Ipi status) = codes "ipi " ++ status_text status

abbrev pub line_cause_text : LineCause → List ℕ
line_cause_text Cut = codes "cut"
line_cause_text Char = codes "char"
line_cause_text End = codes "end"
line_cause_text Word = codes "word"
line_cause_text Count = codes "count"
line_cause_text Number = codes "number"
line_cause_text Actor = codes "actor"
