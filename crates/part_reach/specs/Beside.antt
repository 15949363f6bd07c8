-- What a call reaches beside the local APIC of its processor, as that stands (this board's own rule).
use Rattle.std.specs.Prelude.{◌≡◌, ℕ, ◌+◌, not, ◌&&◌, if◌then◌else◌, is_some, Some, None}
use Rattle.std.specs.declared.option.Option.{Option}
use Rattle.irq_bits.specs.Members.{greatest_vector}
use Rattle.irq_base.specs.declared.call.Call.{Call}
use Rattle.irq_base.specs.declared.call.Call.TheVariants as calls
use Rattle.irq_base.specs.declared.shape.Part.{Part}
use Rattle.irq_base.specs.declared.shape.Part.TheVariants.{Pic, Ioapic}
use Rattle.lapic.specs.Registers.{LocalApic}
use Rattle.board_calls.specs.Processors.{hears_pair}
use Rattle.turn_book.specs.Hands.{held_at}
use Rattle.part_slots.specs.declared.slot.Slot.{Slot}
use Rattle.part_slots.specs.declared.slot.Slot.TheVariants as slots
use Rattle.part_slots.specs.Commits.{Seen}
use Rattle.part_slots.specs.declared.numbers.TheConstants.{FIXED_PARTS}

-- of an acknowledge the pair, where no NMI is pending and LINT0 lets the pair through; of an end of interrupt the I/O APIC, where
-- there is an interrupt to end
abbrev pub beside_apic : LocalApic → ℕ → Call → Option Part
beside_apic apic n calls.Ack = if not apic.nmi && hears_pair n apic then Some Pic else None
beside_apic apic n calls.Eoi = if is_some (greatest_vector apic.isr) then Some Ioapic else None
beside_apic apic n _ = None

-- by what the slot of the processor's local APIC keeps
abbrev pub beside : Slot → ℕ → Call → Option Part
beside (slots.Lapic apic) n call = beside_apic apic n call
beside _ n call = None

-- the part is reached beside the local APIC of processor n, by the slot of that which the seat holds
pub record IsBeside (v : Seen) (n : ℕ) (call : Call) (part : Part) : Type 0 where
  pub slot : Slot
  pub held : held_at (n + FIXED_PARTS) v.held ≡ Some slot
  pub told : beside slot n call ≡ Some part
