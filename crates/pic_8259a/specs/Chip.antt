-- One 8259A at power-on.
-- 8259A data sheet; that power-on masks all levels is this board's own rule.
use Rattle.std.specs.Prelude.{false}
use Rattle.std.specs.FinSet as set
use Rattle.pic_8259a.specs.Levels.{levels_of}
use Rattle.pic_8259a.specs.declared.chip.Chip.{Chip}
use Rattle.pic_8259a.specs.declared.chip.Expects.TheVariants.{Nothing}

-- a chip at power-on: every level is masked, level 7 is the lowest, all else is empty, 0 or off
abbrev pub chip_at_power_on : Chip
chip_at_power_on = record {
  imr = levels_of 0xff;
  latches = set.empty;
  high = set.empty;
  isr = set.empty;
  elcr = set.empty;
  base = 0;
  lowest = 7;
  auto_eoi = false;
  rotates_in_auto_eoi = false;
  special_fully_nested = false;
  special_mask = false;
  poll_pending = false;
  reads_isr = false;
  expects = Nothing;
}
