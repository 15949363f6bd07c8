-- Room for the working copies of a call, with a rig over those in hand (this board's own).
use Rattle.std.specs.Prelude.{◌≡◌, ℕ, ◌<◌, true, false, List, [], ◌∷◌, length, replicate, slice_set, is_some, option_map, Some, None}
use Rattle.std.specs.declared.option.Option.{Option}
use Rattle.irq_base.specs.declared.shape.Part.{Part}
use Rattle.irq_base.specs.declared.shape.Part.TheVariants.{Registry, Counters, Tick, Pic, Ioapic, Lapic}
use Rattle.irq_base.specs.declared.shape.Shape.{Shape}
use Rattle.board_model.specs.Hand.{part_in}
use Rattle.board_raise.specs.declared.parts.Parts.{Parts}
use Rattle.board_raise.specs.InHand.{parts_of}
use Rattle.board_raise.specs.OnRow.{Row}
use Rattle.turn_book.specs.Histories.{is_in}
use Rattle.part_slots.specs.declared.slot.Slot.{Slot}
use Rattle.part_slots.specs.declared.slot.Slot.TheVariants as slots
use Rattle.part_slots.specs.Slots.{place, part_at}
use Rattle.part_copies.specs.Copied.{with_copy, RoomFor, written_by, FitsOver}
use Rattle.part_rig.specs.declared.workroom.Workroom.{Workroom}

-- the first, or else the other
abbrev pub or_spare : {A : Type 0} → Option A → Option A → Option A
or_spare None spare = spare
or_spare (Some x) spare = Some x

-- what is left of a spare once the part is in hand
abbrev pub spare_left : {A : Type 0} → Option A → Option A → Option A
spare_left None spare = None
spare_left (Some x) spare = spare

-- nothing in hand, and a place for each of n local APICs
abbrev pub nothing : ℕ → Parts
nothing n = record { registry = None; counters = None; tick = None; pic = None; ioapic = None; lapics = replicate n None }

-- there is a registry, and as many counters as the shape has, in hand or spare; and a place for each local APIC
pub record IsRoomFor (shape : Shape) (room : Workroom) : Type 0 where
  pub registry : is_some (or_spare room.rig.parts.registry room.registry) ≡ true
  pub counters : option_map (λ (c : List ℕ). length c) (or_spare room.rig.parts.counters room.counters) ≡ Some shape.counters
  pub places : length room.rig.parts.lapics ≡ shape.cpus

-- no part is in hand
abbrev pub IsBare : Parts → Type 0
IsBare parts = (p : Part) → is_some (part_in (parts_of parts) p) ≡ false

-- no part is in hand but those of these places
abbrev pub AreAt : List ℕ → Parts → Type 0
AreAt places parts = (p : Part) → is_in (place p) places ≡ false → is_some (part_in (parts_of parts) p) ≡ false

-- ---- parts that are in hand no more

abbrev pub with_parts : Workroom → Parts → Workroom
with_parts room parts = record room { rig = record room.rig { parts = parts } }

-- the parts without one
abbrev pub without : Part → Parts → Parts
without Registry q = record q { registry = None }
without Counters q = record q { counters = None }
without Tick q = record q { tick = None }
without Pic q = record q { pic = None }
without Ioapic q = record q { ioapic = None }
without (Lapic n) q = record q { lapics = slice_set q.lapics n None }

-- a local APIC has its place in the row
abbrev pub IsPlaceIn : Row → Part → Type 0
IsPlaceIn row (Lapic n) = n < length row
IsPlaceIn row _ = Unit {0}

-- the part is in hand no more; a registry and counters that were in hand are spare then
abbrev pub cleared : Part → Workroom → Workroom
cleared Registry room =
    with_parts (record room { registry = or_spare room.rig.parts.registry room.registry }) (without Registry room.rig.parts)
cleared Counters room =
    with_parts (record room { counters = or_spare room.rig.parts.counters room.counters }) (without Counters room.rig.parts)
cleared p room = with_parts room (without p room.rig.parts)

-- nor is that of any of these places
abbrev pub cleared_each : List ℕ → Workroom → Workroom
cleared_each [] room = room
cleared_each (place ∷ rest) room = cleared_each rest (cleared (part_at place) room)

-- ---- copies

-- the room with what is spare of the registry and the counters once what the slot keeps comes to hand
abbrev pub taken_for : Slot → Workroom → Workroom
taken_for (slots.Registry home) room = record room { registry = spare_left room.rig.parts.registry room.registry }
taken_for (slots.Counters kept) room = record room { counters = spare_left room.rig.parts.counters room.counters }
taken_for _ room = room

-- the room with the spare registry or counters in hand, if a copy of what the slot keeps wants them and they are not in hand
abbrev pub fetched : Slot → Workroom → Workroom
fetched (slots.Registry home) room =
    with_parts (taken_for (slots.Registry home) room) (record room.rig.parts { registry = or_spare room.rig.parts.registry room.registry })
fetched (slots.Counters kept) room =
    with_parts (taken_for (slots.Counters kept) room) (record room.rig.parts { counters = or_spare room.rig.parts.counters room.counters })
fetched _ room = room

-- the room with a copy of what the slot of that turn keeps in hand
abbrev pub copied_in : ℕ → Slot → Workroom → Workroom
copied_in turn kept room = record (taken_for kept room) { rig = record room.rig { parts = with_copy turn kept room.rig.parts } }

-- the parts in hand, with what is spare
abbrev pub with_spares : Workroom → Parts
with_spares room = record room.rig.parts {
  registry = or_spare room.rig.parts.registry room.registry;
  counters = or_spare room.rig.parts.counters room.counters;
}

-- there is room for a copy of what a slot keeps
abbrev pub HasRoomFor : ℕ → Slot → Workroom → Type 0
HasRoomFor turn kept room = RoomFor turn kept (with_spares room)

abbrev pub written_from : ℕ → Workroom → Slot → Slot
written_from turn room kept = written_by turn room.rig.parts kept

abbrev pub FitsFrom : ℕ → Workroom → Slot → Type 0
FitsFrom turn room kept = FitsOver turn room.rig.parts kept
