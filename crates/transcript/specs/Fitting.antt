-- The transcripts that a run can have: each number fits its type, and a set has numbers below MAX_CPUS alone.
use Rattle.std.specs.Prelude.{◌≡◌, ◌^◌, ◌<◌, All, length}
use Rattle.irq_bits.specs.Members.{Numbers, members_of, word_of}
use Rattle.irq_base.specs.declared.event.Event.{Event}
use Rattle.irq_base.specs.declared.event.Event.TheVariants.{Acked, Resampled, Watched, Rang, Injected, Resent, Ipi}
use Rattle.irq_base.specs.declared.event.Pin.{Pin}
use Rattle.irq_base.specs.declared.event.Pin.TheVariants.{Pic, Ioapic}
use Rattle.irq_base.specs.declared.lists.Entry.{Entry}
use Rattle.irq_base.specs.declared.reply.Reply.{Reply}
use Rattle.irq_base.specs.declared.reply.Reply.TheVariants.{Signal, Done, Count, Empty, Removed, Value, Exit, Vector, Extint, Nmi}
use Rattle.irq_base.specs.declared.reply.Reply.TheVariants.{Ended, Nothing, Held, Refused}
use Rattle.irq_base.specs.declared.status.Status.{Status}
use Rattle.irq_base.specs.declared.status.Status.TheVariants.{Delivered, Coalesced, Ignored, Lowered}
use Rattle.script_text.specs.Fitting.{FitsCall, FitsCaller, FitsIfThere}
use Rattle.transcript.specs.declared.transcript.Transcript.{Transcript}
use Rattle.irq_bits.specs.declared.limits.TheConstants.{MAX_CPUS}

-- a set that its word gives back
abbrev pub FitsSet : Numbers → Type 0
FitsSet s = members_of MAX_CPUS (word_of MAX_CPUS s) ≡ s

abbrev pub FitsStatus : Status → Type 0
FitsStatus (Delivered new stood pic) = FitsSet new × FitsSet stood
FitsStatus (Coalesced stood) = FitsSet stood
FitsStatus (Ignored cause) = Unit {0}
FitsStatus Lowered = Unit {0}

abbrev pub FitsReply : Reply → Type 0
FitsReply (Signal status) = FitsStatus status
FitsReply Done = Unit {0}
FitsReply (Count n) = n < 2 ^ 64
FitsReply Empty = Unit {0}
FitsReply (Removed n) = n < 2 ^ 8
FitsReply (Value v) = v < 2 ^ 64
FitsReply Exit = Unit {0}
FitsReply (Vector v) = v < 2 ^ 8
FitsReply (Extint v) = v < 2 ^ 8
FitsReply Nmi = Unit {0}
FitsReply (Ended v) = v < 2 ^ 8
FitsReply Nothing = Unit {0}
FitsReply (Held n) = n < 2 ^ 64
FitsReply (Refused refusal) = Unit {0}

abbrev pub FitsPin : Pin → Type 0
FitsPin (Pic n) = n < 2 ^ 8
FitsPin (Ioapic n) = n < 2 ^ 8

abbrev pub FitsEvent : Event → Type 0
FitsEvent (Acked pin gsi) = FitsPin pin × FitsIfThere 16 gsi
FitsEvent (Resampled counter) = counter < 2 ^ 16
FitsEvent (Watched counter) = counter < 2 ^ 16
FitsEvent (Rang counter) = counter < 2 ^ 16
FitsEvent (Injected gsi status) = (gsi < 2 ^ 16) × FitsStatus status
FitsEvent (Resent pin status) = (pin < 2 ^ 8) × FitsStatus status
FitsEvent (Ipi status) = FitsStatus status

pub record FitsEntry (e : Entry) : Type 0 where
  pub caller : FitsCaller e.caller
  pub call : FitsCall e.call
  pub reply : FitsReply e.reply
  pub events : All FitsEvent e.events

pub record IsTranscript (run : Transcript) : Type 0 where
  pub entries : All FitsEntry run.history
  pub few : length run.history < 2 ^ 64
