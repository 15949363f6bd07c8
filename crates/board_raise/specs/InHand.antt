-- The parts in hand that the code has, as parts of the model (this board's own).
use Rattle.std.specs.Prelude.{◌≡◌, ℕ, length, is_some, option_map}
use Rattle.std.specs.declared.option.Option.{Option}
use Rattle.irq_base.specs.declared.shape.Part.{Part}
use Rattle.board_model.specs.Registry.{RegistryPart}
use Rattle.board_model.specs.Chips.{PicPart, without_pins, IoapicPart}
use Rattle.board_model.specs.Hand.{Parts, part_in}
use Rattle.board_raise.specs.declared.parts.RegistryPart as registry
use Rattle.board_raise.specs.declared.parts.PicPart as pic
use Rattle.board_raise.specs.declared.parts.IoPart as ioapic
use Rattle.board_raise.specs.declared.parts.Parts as parts
use Rattle.board_raise.specs.Fit.{Pins}
use Rattle.board_raise.specs.OnRow.{Row, apic_in}

-- the table and the registrations
abbrev pub registry_of : registry.RegistryPart → RegistryPart
registry_of r = record { table = r.table; irqfds = r.irqfds; watches = r.watches; ioevents = r.ioevents }

-- both chips of the 8259A pair without the levels of their pins, and the holds
abbrev pub pic_of : pic.PicPart → PicPart
pic_of p = record { master = without_pins p.pair.master; slave = without_pins p.pair.slave; holds = p.levels }

-- the I/O APIC without the levels of its pins, and the holds
abbrev pub ioapic_of : ioapic.IoPart → IoapicPart
ioapic_of p = record { entries = p.ioapic.entries; selected = p.ioapic.selected; identity = p.ioapic.identity; holds = p.levels }

-- each part that is in hand
abbrev pub parts_of : parts.Parts → Parts
parts_of p = record {
  registry = option_map registry_of p.registry;
  counters = p.counters;
  tick = p.tick;
  pic = option_map pic_of p.pic;
  ioapic = option_map ioapic_of p.ioapic;
  lapics = p.lapics;
}

-- the chips in hand with the levels of their pins, and the holds
abbrev pub chips_of : parts.Parts → Pins
chips_of p = record {
  pic = option_map (λ (c : pic.PicPart). (c.pair, c.levels)) p.pic;
  ioapic = option_map (λ (c : ioapic.IoPart). (c.ioapic, c.levels)) p.ioapic;
}

-- ---- what a sending changes of them

-- the number of a processor's local APIC, if it is in hand
abbrev pub number_in : Row → ℕ → Option ℕ
number_in row n = option_map (λ apic. apic.number) (apic_in row n)

-- only local APICs change: the same parts are in hand, each local APIC stands where one stood, and has its number
pub record OnlyApicsChange (old new : parts.Parts) : Type 0 where
  pub held : (part : Part) → is_some (part_in (parts_of new) part) ≡ is_some (part_in (parts_of old) part)
  pub others : new ≡ record old { lapics = new.lapics }
  pub places : length new.lapics ≡ length old.lapics
  pub numbers : (n : ℕ) → number_in new.lapics n ≡ number_in old.lapics n

-- ---- what a signal changes of them

-- only chips with pins change, and the same parts are in hand
pub record OnlyPinsChange (old new : parts.Parts) : Type 0 where
  pub held : (part : Part) → is_some (part_in (parts_of new) part) ≡ is_some (part_in (parts_of old) part)
  pub others : new ≡ record old { pic = new.pic; ioapic = new.ioapic }

-- only chips with pins and local APICs change: the same parts are in hand, each local APIC stands where one stood, and has its
-- number
pub record OnlySignalled (old new : parts.Parts) : Type 0 where
  pub held : (part : Part) → is_some (part_in (parts_of new) part) ≡ is_some (part_in (parts_of old) part)
  pub others : new ≡ record old { pic = new.pic; ioapic = new.ioapic; lapics = new.lapics }
  pub places : length new.lapics ≡ length old.lapics
  pub numbers : (n : ℕ) → number_in new.lapics n ≡ number_in old.lapics n
