-- A copy leaves the room for others.
use Rattle.std.specs.Prelude.{ℕ}
use Rattle.part_slots.specs.declared.slot.Slot.{Slot}
use Rattle.part_slots.specs.declared.slot.Slot.TheVariants as slots
use Rattle.part_copies.specs.RoomStays as copies
use Rattle.part_rig.specs.declared.workroom.Workroom.{Workroom}
use Rattle.part_rig.specs.Rooms.{with_spares, HasRoomFor, copied_in}

pub room_stays : (p q : ℕ) (x y : Slot) (c : Workroom) → HasRoomFor p x c → HasRoomFor q y c → HasRoomFor q y (copied_in p x c)
room_stays p q (slots.Registry home) y c here there = copies.room_stays p q (slots.Registry home) y (with_spares c) here there
room_stays p q (slots.Counters kept) y c here there = copies.room_stays p q (slots.Counters kept) y (with_spares c) here there
room_stays p q (slots.Tick kept) y c here there = copies.room_stays p q (slots.Tick kept) y (with_spares c) here there
room_stays p q (slots.Pic kept) y c here there = copies.room_stays p q (slots.Pic kept) y (with_spares c) here there
room_stays p q (slots.Ioapic kept) y c here there = copies.room_stays p q (slots.Ioapic kept) y (with_spares c) here there
room_stays p q (slots.Lapic kept) y c here there = copies.room_stays p q (slots.Lapic kept) y (with_spares c) here there
