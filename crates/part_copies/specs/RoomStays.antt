-- A copy leaves the room for others.
use Rattle.std.proofs.Common.{◌≡◌, ℕ, zero, suc, ◌-◌, ◌<◌, List, [], ◌∷◌, length, slice_set, Some, None, refl, sym, ap, ◌∙◌, subst}
use Rattle.std.specs.declared.option.Option.{Option}
use Rattle.board_raise.specs.declared.parts.Parts.{Parts}
use Rattle.board_raise.specs.OnRow.{Row}
use Rattle.lapic.specs.Registers.{LocalApic}
use Rattle.part_slots.specs.declared.slot.Slot.{Slot}
use Rattle.part_slots.specs.declared.slot.Slot.TheVariants as slots
use Rattle.part_copies.specs.Copied.{IsLong, RoomFor, with_copy}
use Rattle.part_slots.specs.declared.numbers.TheConstants.{FIXED_PARTS}

length-set : (row : Row) (n : ℕ) (place : Option LocalApic) → length (slice_set row n place) ≡ length row
length-set [] n place = refl
length-set (p ∷ row) zero place = refl
length-set (p ∷ row) (suc n) place = ap suc (length-set row n place)

as_long : (x y : List ℕ) (o : Option (List ℕ)) → IsLong x o → IsLong y o → length x ≡ length y
as_long x y None a b = elim a [ ]
as_long x y (Some c) a b = sym a ∙ b

row_stays : (x : Slot) (p : ℕ) (c : Parts) → length (with_copy p x c).lapics ≡ length c.lapics
row_stays (slots.Registry home) p c = refl
row_stays (slots.Counters kept) p c = refl
row_stays (slots.Tick kept) p c = refl
row_stays (slots.Pic kept) p c = refl
row_stays (slots.Ioapic kept) p c = refl
row_stays (slots.Lapic kept) p c = length-set c.lapics (p - FIXED_PARTS) (Some kept)

pub room_stays : (p q : ℕ) (x y : Slot) (c : Parts) → RoomFor p x c → RoomFor q y c → RoomFor q y (with_copy p x c)
room_stays p q (slots.Registry home) (slots.Registry other) c here there = refl
room_stays p q (slots.Counters kept) (slots.Registry other) c here there = there
room_stays p q (slots.Tick kept) (slots.Registry other) c here there = there
room_stays p q (slots.Pic kept) (slots.Registry other) c here there = there
room_stays p q (slots.Ioapic kept) (slots.Registry other) c here there = there
room_stays p q (slots.Lapic kept) (slots.Registry other) c here there = there
room_stays p q (slots.Registry home) (slots.Counters other) c here there = there
room_stays p q (slots.Counters kept) (slots.Counters other) c here there = as_long kept other c.counters here there
room_stays p q (slots.Tick kept) (slots.Counters other) c here there = there
room_stays p q (slots.Pic kept) (slots.Counters other) c here there = there
room_stays p q (slots.Ioapic kept) (slots.Counters other) c here there = there
room_stays p q (slots.Lapic kept) (slots.Counters other) c here there = there
room_stays p q x (slots.Tick other) c here there = tt
room_stays p q x (slots.Pic other) c here there = tt
room_stays p q x (slots.Ioapic other) c here there = tt
room_stays p q x (slots.Lapic other) c here (low, few) = (subst (λ n. q - FIXED_PARTS < n) (sym (row_stays x p c)) low, few)
