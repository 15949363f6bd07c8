-- A registry that was lent comes home.
use Rattle.std.proofs.Common.{refl, Some, None}
use Rattle.part_slots.specs.declared.slot.Slot.TheVariants as slots
use Rattle.part_rig.specs.Lending.{LentComesHome}

pub lent_comes_home : LentComesHome
lent_comes_home (slots.Registry home) None = refl
lent_comes_home (slots.Registry home) (Some other) = refl
lent_comes_home (slots.Counters c) other = refl
lent_comes_home (slots.Tick t) other = refl
lent_comes_home (slots.Pic p) other = refl
lent_comes_home (slots.Ioapic p) other = refl
lent_comes_home (slots.Lapic a) other = refl
