-- Parts in hand: some parts of a board.
use Rattle.std.specs.Prelude.{ℕ, List, map, slice_get, slice_set, Some, None}
use Rattle.std.specs.declared.option.Option.{Option}
use Rattle.irq_base.specs.declared.shape.Part.{Part}
use Rattle.irq_base.specs.declared.shape.Part.TheVariants.{Registry, Counters, Tick, Pic, Ioapic, Lapic}
use Rattle.lapic.specs.Registers.{LocalApic}
use Rattle.tick_reinject.specs.declared.state.TickState.{TickState}
use Rattle.board_model.specs.Registry.{RegistryPart}
use Rattle.board_model.specs.Chips.{PicPart, IoapicPart}
use Rattle.board_model.specs.Board.{ValueOf, Board}

-- parts in hand, each there or not
pub record Parts : Type 0 where
  pub registry : Option RegistryPart
  pub counters : Option (List ℕ)
  pub tick : Option TickState
  pub pic : Option PicPart
  pub ioapic : Option IoapicPart
  pub lapics : List (Option LocalApic)

-- none where nothing is there or where none stands there
abbrev pub flat : {A : Type 0} → Option (Option A) → Option A
flat None = None
flat (Some x) = x

-- the part of that name, if it is in hand
abbrev pub part_in : Parts → (p : Part) → Option (ValueOf p)
part_in q Registry = q.registry
part_in q Counters = q.counters
part_in q Tick = q.tick
part_in q Pic = q.pic
part_in q Ioapic = q.ioapic
part_in q (Lapic n) = flat (slice_get q.lapics n)

-- the parts in hand with that value of that part
abbrev pub with_part_in : Parts → (p : Part) → ValueOf p → Parts
with_part_in q Registry v = record q { registry = Some v }
with_part_in q Counters v = record q { counters = Some v }
with_part_in q Tick v = record q { tick = Some v }
with_part_in q Pic v = record q { pic = Some v }
with_part_in q Ioapic v = record q { ioapic = Some v }
with_part_in q (Lapic n) v = record q { lapics = slice_set q.lapics n (Some v) }

-- all parts of a board in hand
abbrev pub all_parts : Board → Parts
all_parts b = record {
  registry = Some b.registry;
  counters = Some b.counters;
  tick = Some b.tick;
  pic = Some b.pic;
  ioapic = Some b.ioapic;
  lapics = map (λ apic. Some apic) b.lapics;
}
