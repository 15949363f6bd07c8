-- The parts of a board as their turns guard them, in the order of their turns.
use Rattle.std.specs.Prelude.{◌≡◌, ℕ, zero, suc, ◌+◌, List, ◌∷◌, map}
use Rattle.irq_base.specs.declared.shape.Part.{Part}
use Rattle.irq_base.specs.declared.shape.Part.TheVariants.{Registry, Counters, Tick, Pic, Ioapic, Lapic}
use Rattle.lapic.specs.Registers.{LocalApic}
use Rattle.board_model.specs.Board.{Board}
use Rattle.board_model.specs.Chips.{pair_of, ioapic_of}
use Rattle.part_slots.specs.declared.slot.Slot.{Slot}
use Rattle.part_slots.specs.declared.slot.Slot.TheVariants as slots
use Rattle.part_slots.specs.declared.numbers.TheConstants.{FIXED_PARTS}

-- the place of a part: its turn's number
abbrev pub place : Part → ℕ
place Registry = 0
place Counters = 1
place Tick = 2
place Pic = 3
place Ioapic = 4
place (Lapic n) = n + FIXED_PARTS

-- the part of a place
abbrev pub part_at : ℕ → Part
part_at zero = Registry
part_at (suc zero) = Counters
part_at (suc (suc zero)) = Tick
part_at (suc (suc (suc zero))) = Pic
part_at (suc (suc (suc (suc zero)))) = Ioapic
part_at (suc (suc (suc (suc (suc n))))) = Lapic n

-- the two are inverse
pub record PartsHavePlaces : Type 0 where
  pub part : (p : Part) → part_at (place p) ≡ p
  pub place : (k : ℕ) → place (part_at k) ≡ k

-- the registry, and the shape of its board
abbrev pub registry_slot : Board → Slot
registry_slot b = slots.Registry (record {
  registry = record { table = b.registry.table; irqfds = b.registry.irqfds; watches = b.registry.watches; ioevents = b.registry.ioevents };
  shape = b.shape;
})

-- the chips with the levels of their pins
abbrev pub pic_slot : Board → Slot
pic_slot b = slots.Pic (record { pair = pair_of b.pic; levels = b.pic.holds })

abbrev pub ioapic_slot : Board → Slot
ioapic_slot b = slots.Ioapic (record { ioapic = ioapic_of b.ioapic; levels = b.ioapic.holds })

-- each part, in the order of turns
abbrev pub slots_of : Board → List Slot
slots_of b =
    registry_slot b ∷ slots.Counters b.counters ∷ slots.Tick b.tick ∷ pic_slot b
    ∷ ioapic_slot b ∷ map (λ (a : LocalApic). slots.Lapic a) b.lapics
