-- Working copies of what slots keep, and slots with what copies have (this board's own rule).
use Rattle.std.specs.Prelude.{◌≡◌, ℕ, ◌-◌, ◌<◌, true, List, length, slice_set, is_some, IfSome, Some, None}
use Rattle.std.specs.declared.option.Option.{Option}
use Rattle.board_raise.specs.declared.parts.Parts.{Parts}
use Rattle.board_raise.specs.OnRow.{apic_in}
use Rattle.part_slots.specs.declared.slot.Slot.{Slot}
use Rattle.part_slots.specs.declared.slot.Slot.TheVariants as slots
use Rattle.irq_bits.specs.declared.limits.TheConstants.{MAX_CPUS}
use Rattle.part_slots.specs.declared.numbers.TheConstants.{FIXED_PARTS}

-- counters are there, as many as these
abbrev pub IsLong : List ℕ → Option (List ℕ) → Type 0
IsLong kept None = ⊥
IsLong kept (Some copy) = length copy ≡ length kept

-- ---- what is taken in

-- the parts with a copy of what the slot of that turn keeps
abbrev pub with_copy : ℕ → Slot → Parts → Parts
with_copy turn (slots.Registry home) q = record q { registry = Some home.registry }
with_copy turn (slots.Counters kept) q = record q { counters = Some kept }
with_copy turn (slots.Tick kept) q = record q { tick = Some kept }
with_copy turn (slots.Pic kept) q = record q { pic = Some kept }
with_copy turn (slots.Ioapic kept) q = record q { ioapic = Some kept }
with_copy turn (slots.Lapic kept) q = record q { lapics = slice_set q.lapics (turn - FIXED_PARTS) (Some kept) }

-- there is room for a copy of what a slot keeps: a registry is copied over a registry, counters over as many, and a local APIC
-- comes to its place in the row
abbrev pub RoomFor : ℕ → Slot → Parts → Type 0
RoomFor turn (slots.Registry home) q = is_some q.registry ≡ true
RoomFor turn (slots.Counters kept) q = IsLong kept q.counters
RoomFor turn (slots.Lapic kept) q = (turn - FIXED_PARTS < length q.lapics) × (turn - FIXED_PARTS < MAX_CPUS)
RoomFor turn _ q = Unit {0}

-- ---- what is written back

-- the copy, if there is one, else what was kept
abbrev pub or_kept : {A : Type 0} → Option A → A → A
or_kept None kept = kept
or_kept (Some copy) kept = copy

-- the slot of that turn with the copy that the parts have of its part
abbrev pub written_by : ℕ → Parts → Slot → Slot
written_by turn q (slots.Registry home) = slots.Registry (record home { registry = or_kept q.registry home.registry })
written_by turn q (slots.Counters kept) = slots.Counters (or_kept q.counters kept)
written_by turn q (slots.Tick kept) = slots.Tick (or_kept q.tick kept)
written_by turn q (slots.Pic kept) = slots.Pic (or_kept q.pic kept)
written_by turn q (slots.Ioapic kept) = slots.Ioapic (or_kept q.ioapic kept)
written_by turn q (slots.Lapic kept) = slots.Lapic (or_kept (apic_in q.lapics (turn - FIXED_PARTS)) kept)

-- a copy can be written over what a slot keeps: counters over as many, a local APIC from its place in the row
abbrev pub FitsOver : ℕ → Parts → Slot → Type 0
FitsOver turn q (slots.Counters kept) = IfSome q.counters (λ copy. length kept ≡ length copy)
FitsOver turn q (slots.Lapic kept) = (turn - FIXED_PARTS < length q.lapics) × (turn - FIXED_PARTS < MAX_CPUS)
FitsOver turn q _ = Unit {0}
