-- A chip's part and its chip.
use Rattle.std.proofs.Common.{refl, sym}
use Rattle.board_model.specs.Chips.{chip_of, without_pins}
use Rattle.board_model.specs.Laws.{PinsFollowHolds}

pub pins_follow_holds : PinsFollowHolds
pins_follow_holds = record {
  pic = λ part. refl;
  pair = λ part pair m s i. record { master = chip_of (without_pins pair.master) (sym m i); slave = chip_of (without_pins pair.slave) (sym s i) };
  ioapic = λ part. refl;
  chip = λ part chip h i. record chip { high = sym h i };
}
