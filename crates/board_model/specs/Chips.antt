-- The chips with pins, as parts of a board: a pin has no level of its own there, it is high while some source holds it.
use Rattle.std.specs.Prelude.{ℕ, ◌+◌, Bool, List}
use Rattle.irq_bits.specs.Members.{Numbers, set_below}
use Rattle.pic_8259a.specs.declared.chip.Chip.{Chip}
use Rattle.pic_8259a.specs.declared.chip.Expects.{Expects}
use Rattle.pic_8259a.specs.declared.pair.Pair.{Pair}
use Rattle.ioapic_82093aa.specs.declared.entry.Entry.{Entry}
use Rattle.ioapic_82093aa.specs.declared.ioapic.Ioapic.{Ioapic}
use Rattle.source_levels.specs.Holds.{Holds, is_high}

-- ---- the 8259A pair

-- one 8259A but for the levels of its pins (8259A data sheet)
pub record PicChip : Type 0 where
  pub imr : Numbers
  pub latches : Numbers
  pub isr : Numbers
  pub elcr : Numbers
  pub base : ℕ
  pub lowest : ℕ
  pub auto_eoi : Bool
  pub rotates_in_auto_eoi : Bool
  pub special_fully_nested : Bool
  pub special_mask : Bool
  pub poll_pending : Bool
  pub reads_isr : Bool
  pub expects : Expects

-- both chips, and which sources hold the pins 0 to 15
pub record PicPart : Type 0 where
  pub master : PicChip
  pub slave : PicChip
  pub holds : Holds

-- a chip with these pins high
abbrev pub chip_of : PicChip → Numbers → Chip
chip_of c high = record {
  imr = c.imr;
  latches = c.latches;
  high = high;
  isr = c.isr;
  elcr = c.elcr;
  base = c.base;
  lowest = c.lowest;
  auto_eoi = c.auto_eoi;
  rotates_in_auto_eoi = c.rotates_in_auto_eoi;
  special_fully_nested = c.special_fully_nested;
  special_mask = c.special_mask;
  poll_pending = c.poll_pending;
  reads_isr = c.reads_isr;
  expects = c.expects;
}

-- what remains of a chip without the levels of its pins
abbrev pub without_pins : Chip → PicChip
without_pins c = record {
  imr = c.imr;
  latches = c.latches;
  isr = c.isr;
  elcr = c.elcr;
  base = c.base;
  lowest = c.lowest;
  auto_eoi = c.auto_eoi;
  rotates_in_auto_eoi = c.rotates_in_auto_eoi;
  special_fully_nested = c.special_fully_nested;
  special_mask = c.special_mask;
  poll_pending = c.poll_pending;
  reads_isr = c.reads_isr;
  expects = c.expects;
}

-- the pins of the master that are held high: those below 8
abbrev pub master_high : Holds → Numbers
master_high holds = set_below 8 (is_high holds)

-- the pins of the slave that are held high: pin 8 is its level 0
abbrev pub slave_high : Holds → Numbers
slave_high holds = set_below 8 (λ level. is_high holds (level + 8))

-- the pair whose pins are high where some source holds them
abbrev pub pair_of : PicPart → Pair
pair_of pic = record { master = chip_of pic.master (master_high pic.holds); slave = chip_of pic.slave (slave_high pic.holds) }

-- the part with the registers of that pair, and the holds as they are
abbrev pub with_pair : PicPart → Pair → PicPart
with_pair pic pair = record { master = without_pins pair.master; slave = without_pins pair.slave; holds = pic.holds }

-- ---- the I/O APIC

-- the I/O APIC but for the levels of its pins (82093AA data sheet), and which sources hold the pins 0 to 23
pub record IoapicPart : Type 0 where
  pub entries : List Entry
  pub selected : ℕ
  pub identity : ℕ
  pub holds : Holds

-- the pins that are held high
abbrev pub ioapic_high : Holds → Numbers
ioapic_high holds = set_below 24 (is_high holds)

-- the I/O APIC whose pins are high where some source holds them
abbrev pub ioapic_of : IoapicPart → Ioapic
ioapic_of part = record { entries = part.entries; high = ioapic_high part.holds; selected = part.selected; identity = part.identity }

-- the part with the registers of that chip, and the holds as they are
abbrev pub with_ioapic : IoapicPart → Ioapic → IoapicPart
with_ioapic part chip = record { entries = chip.entries; selected = chip.selected; identity = chip.identity; holds = part.holds }
