-- A slot of a local APIC.
use Rattle.std.proofs.Common.{◌≡◌, ℕ, zero, suc, ◌<◌, List, [], ◌∷◌, length, slice_get, Some, arith}
use Rattle.lapic.specs.Registers.{LocalApic}
use Rattle.part_slots.specs.declared.slot.Slot.{Slot}
use Rattle.part_slots.specs.declared.slot.Slot.TheVariants as slots
use Rattle.part_slots.proofs.Places.{lapic_slots}

pub apic_at : (row : List LocalApic) (n : ℕ) (x : Slot) → slice_get (lapic_slots row) n ≡ Some x → (a : LocalApic) × (x ≡ slots.Lapic a) × (n < length row)
apic_at [] n x is = cc
apic_at (a ∷ row) zero x is = (a, (cc), omega arith)
apic_at (a ∷ row) (suc n) x is = (let f = apic_at row n x is in (f.0, f.1, (let low = f.2 in omega (arith, low))))
