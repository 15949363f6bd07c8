-- The registry of a slot, lent to the rig and brought home (this board's own rule).
use Rattle.std.specs.Prelude.{◌≡◌, Some, None}
use Rattle.std.specs.declared.option.Option.{Option}
use Rattle.board_raise.specs.declared.parts.RegistryPart.{RegistryPart}
use Rattle.part_slots.specs.declared.slot.Slot.{Slot}
use Rattle.part_slots.specs.declared.slot.Slot.TheVariants as slots
use Rattle.part_copies.specs.Copied.{or_kept, with_copy}
use Rattle.part_rig.specs.declared.workroom.Workroom.{Workroom}

-- the registry that a slot keeps, if it is the registry's
abbrev pub registry_in : Slot → Option RegistryPart
registry_in (slots.Registry home) = Some home.registry
registry_in _ = None

-- the registry's slot with another registry, if there is one
abbrev pub with_registry : Slot → Option RegistryPart → Slot
with_registry (slots.Registry home) other = slots.Registry (record home { registry = or_kept other home.registry })
with_registry slot other = slot

-- the room while the registry of the slot is in hand, and nothing spare
abbrev pub lent : Slot → Workroom → Workroom
lent slot room = record room { rig = record room.rig { parts = with_copy 0 slot room.rig.parts }; registry = None }

-- the room once the slot has the registry back, and what stood in the slot is spare
abbrev pub returned : Slot → Workroom → Workroom
returned slot room = record room {
  rig = record room.rig { parts = record room.rig.parts { registry = None } };
  registry = registry_in slot;
}

-- a slot whose registry was lent, and to which that registry comes home, is as it was, whatever stood in it meanwhile
abbrev pub LentComesHome : Type 0
LentComesHome = (slot : Slot) (spare : Option RegistryPart) → with_registry (with_registry slot spare) (registry_in slot) ≡ slot
