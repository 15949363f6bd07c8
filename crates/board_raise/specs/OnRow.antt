-- A sending on the local APICs in hand, which stand in a row by their processors' numbers (SDM volume 3, determining IPI
-- destination).
use Rattle.std.specs.Prelude.{ℕ, List, [], ◌∷◌, slice_get, slice_set, if◌then◌else◌, Some, None}
use Rattle.std.specs.declared.option.Option.{Option}
use Rattle.std.specs.FinSet as set
use Rattle.irq_bits.specs.Members.{Numbers}
use Rattle.irq_base.specs.declared.message.Message.{Message}
use Rattle.lapic.specs.declared.outcome.Shorthand.{Shorthand}
use Rattle.lapic.specs.Registers.{LocalApic}
use Rattle.lapic.specs.Messages.{accepted}
use Rattle.board_model.specs.Hand.{flat}
use Rattle.board_model.specs.Statuses.{Sent}
use Rattle.board_raise.specs.Named.{Processor, named_by, chosen_of}
use Rattle.board_raise.specs.Send.{parted}

-- at each processor's place its local APIC, if it is in hand
abbrev pub Row : Type 0
Row = List (Option LocalApic)

-- the local APIC of a processor, if it is in hand
abbrev pub apic_in : Row → ℕ → Option LocalApic
apic_in row n = flat (slice_get row n)

-- the first of some numbers, where there is no local APIC of it; else what is found of the others
abbrev pub missing_or : ℕ → Option LocalApic → Option ℕ → Option ℕ
missing_or n None others = Some n
missing_or n (Some apic) others = others

-- the first of these processors whose local APIC is not in hand
abbrev pub first_missing : Row → List ℕ → Option ℕ
first_missing row [] = None
first_missing row (n ∷ ns) = missing_or n (apic_in row n) (first_missing row ns)

-- a processor whose local APIC is in hand, before others
abbrev pub with_processor : ℕ → Option LocalApic → List Processor → List Processor
with_processor n None others = others
with_processor n (Some apic) others = record { number = n; apic = apic } ∷ others

-- those of these processors whose local APIC is in hand, in their order
abbrev pub processors_in : Row → List ℕ → List Processor
processors_in row [] = []
processors_in row (n ∷ ns) = with_processor n (apic_in row n) (processors_in row ns)

-- a processor accepts a message, if its local APIC is in hand
abbrev pub accepted_at : ℕ → Option LocalApic → Message → Row → Row
accepted_at n None message row = row
accepted_at n (Some apic) message row = slice_set row n (Some (accepted apic message))

-- each of these processors that is in the set accepts the message, one after another
abbrev pub accepted_by : Message → Numbers → List ℕ → Row → Row
accepted_by message takers [] row = row
accepted_by message takers (n ∷ ns) row =
    accepted_by message takers ns (if set.contains takers n then accepted_at n (apic_in row n) message row else row)

-- the named ones of these processors
abbrev pub named_in : Row → List ℕ → Message → Option (ℕ × Shorthand) → List Processor
named_in row ns message from = named_by message from (processors_in row ns)

-- whom the message reaches under a wish
abbrev pub sent_in : Row → List ℕ → Message → Option (ℕ × Shorthand) → Numbers → Sent
sent_in row ns message from wish = parted message (chosen_of message.mode wish (named_in row ns message from))
