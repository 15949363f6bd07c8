-- The parts of a board as slots, and slots as parts again (this board's own).
use Rattle.std.specs.Prelude.{◌≡◌, ℕ, zero, suc, ◌+◌, ◌≤◌, List, [], ◌∷◌, ◌++◌, length, option_map, slice_set, Some, None}
use Rattle.std.specs.declared.option.Option.{Option}
use Rattle.irq_base.specs.declared.shape.Shape.{Shape}
use Rattle.lapic.specs.Registers.{LocalApic}
use Rattle.tick_reinject.specs.declared.state.TickState.{TickState}
use Rattle.board_raise.specs.declared.parts.RegistryPart.{RegistryPart}
use Rattle.board_raise.specs.declared.parts.PicPart.{PicPart}
use Rattle.board_raise.specs.declared.parts.IoPart.{IoPart}
use Rattle.board_raise.specs.declared.parts.Parts.{Parts}
use Rattle.board_raise.specs.OnRow.{Row}
use Rattle.part_slots.specs.declared.slot.Slot.{Slot}
use Rattle.part_slots.specs.declared.slot.Slot.TheVariants as slots

-- ---- parts as slots

-- what is there
abbrev pub listed : {A : Type 0} → Option A → List A
listed None = []
listed (Some x) = x ∷ []

-- the slot of each part, where it is there
abbrev pub registry_slot : Shape → Option RegistryPart → Option Slot
registry_slot shape registry = option_map (λ (r : RegistryPart). slots.Registry (record { registry = r; shape = shape })) registry

abbrev pub counters_slot : Option (List ℕ) → Option Slot
counters_slot counters = option_map (λ c. slots.Counters c) counters

abbrev pub tick_slot : Option TickState → Option Slot
tick_slot tick = option_map (λ t. slots.Tick t) tick

abbrev pub pic_slot : Option PicPart → Option Slot
pic_slot pic = option_map (λ p. slots.Pic p) pic

abbrev pub ioapic_slot : Option IoPart → Option Slot
ioapic_slot ioapic = option_map (λ p. slots.Ioapic p) ioapic

abbrev pub apic_slot : Option LocalApic → Option Slot
apic_slot apic = option_map (λ a. slots.Lapic a) apic

-- the slots of the local APICs of the first n places
abbrev pub apic_slots : ℕ → Row → List Slot
apic_slots zero row = []
apic_slots (suc n) [] = []
apic_slots (suc n) (place ∷ row) = listed (apic_slot place) ++ apic_slots n row

-- the row without what stood in the first n places
abbrev pub drained : ℕ → Row → Row
drained zero row = row
drained (suc n) [] = []
drained (suc n) (place ∷ row) = None ∷ drained n row

-- the slots of the parts beside the local APICs
abbrev pub five_slots : Shape → Parts → List Slot
five_slots shape p =
    (((listed (registry_slot shape p.registry) ++ listed (counters_slot p.counters)) ++ listed (tick_slot p.tick))
    ++ listed (pic_slot p.pic)) ++ listed (ioapic_slot p.ioapic)

-- the slots of all parts in hand, in the order of turns
abbrev pub slots_in : Shape → Parts → List Slot
slots_in shape p = five_slots shape p ++ apic_slots (length p.lapics) p.lapics

-- ---- slots as parts

-- nothing in hand but a row of places
abbrev pub none_but : Row → Parts
none_but row = record { registry = None; counters = None; tick = None; pic = None; ioapic = None; lapics = row }

-- the parts with that of a slot; a local APIC comes to place n
abbrev pub with_slot : Slot → ℕ → Parts → Parts
with_slot (slots.Registry home) n p = record p { registry = Some home.registry }
with_slot (slots.Counters c) n p = record p { counters = Some c }
with_slot (slots.Tick t) n p = record p { tick = Some t }
with_slot (slots.Pic c) n p = record p { pic = Some c }
with_slot (slots.Ioapic c) n p = record p { ioapic = Some c }
with_slot (slots.Lapic a) n p = record p { lapics = slice_set p.lapics n (Some a) }

-- the place of the next local APIC
abbrev pub place_after : Slot → ℕ → ℕ
place_after (slots.Lapic a) n = n + 1
place_after _ n = n

-- how many local APICs there are
abbrev pub apics_in : List Slot → ℕ
apics_in [] = 0
apics_in (s ∷ rest) = place_after s (apics_in rest)

-- the parts with those of all slots
abbrev pub gathered : List Slot → ℕ → Parts → Parts
gathered [] n p = p
gathered (s ∷ rest) n p = gathered rest (place_after s n) (with_slot s n p)
