-- A board, and each part of it by its name.
use Rattle.std.specs.Prelude.{ℕ, Bool, true, false, List, nat_eq, slice_get, slice_set, unwrap_or}
use Rattle.irq_base.specs.declared.shape.Part.{Part}
use Rattle.irq_base.specs.declared.shape.Part.TheVariants.{Registry, Counters, Tick, Pic, Ioapic, Lapic}
use Rattle.irq_base.specs.declared.shape.Shape.{Shape}
use Rattle.lapic.specs.Registers.{LocalApic, power_on}
use Rattle.tick_reinject.specs.declared.state.TickState.{TickState}
use Rattle.board_model.specs.Registry.{RegistryPart}
use Rattle.board_model.specs.Chips.{PicPart, IoapicPart}

-- what a part of that name is
abbrev pub ValueOf : Part → Type 0
ValueOf Registry = RegistryPart
ValueOf Counters = List ℕ
ValueOf Tick = TickState
ValueOf Pic = PicPart
ValueOf Ioapic = IoapicPart
ValueOf (Lapic n) = LocalApic

-- a board: its shape, its parts, how many calls it has answered, and how many of these changed the published words
pub record Board : Type 0 where
  pub shape : Shape
  pub registry : RegistryPart
  pub counters : List ℕ
  pub tick : TickState
  pub pic : PicPart
  pub ioapic : IoapicPart
  pub lapics : List LocalApic
  pub length : ℕ
  pub publications : ℕ

-- the part of that name; a local APIC that is not there reads as one at power-on
abbrev pub part_of : Board → (p : Part) → ValueOf p
part_of b Registry = b.registry
part_of b Counters = b.counters
part_of b Tick = b.tick
part_of b Pic = b.pic
part_of b Ioapic = b.ioapic
part_of b (Lapic n) = unwrap_or (slice_get b.lapics n) (power_on n)

-- the board with another value of that part; a write to a local APIC that is not there is dropped
abbrev pub with_part : Board → (p : Part) → ValueOf p → Board
with_part b Registry v = record b { registry = v }
with_part b Counters v = record b { counters = v }
with_part b Tick v = record b { tick = v }
with_part b Pic v = record b { pic = v }
with_part b Ioapic v = record b { ioapic = v }
with_part b (Lapic n) v = record b { lapics = slice_set b.lapics n v }

-- whether two names are of one part
abbrev pub is_same : Part → Part → Bool
is_same Registry Registry = true
is_same Counters Counters = true
is_same Tick Tick = true
is_same Pic Pic = true
is_same Ioapic Ioapic = true
is_same (Lapic n) (Lapic m) = nat_eq n m
is_same _ _ = false
