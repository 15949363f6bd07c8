-- What holds of the pins of a board: to hold a pin is to raise it on the chip, and to let the last hold go is to lower it.
use Rattle.std.specs.Prelude.{◌≡◌, ℕ, ◌<◌, true, false}
use Rattle.std.specs.FinSet as set
use Rattle.irq_base.specs.declared.message.Source.{Source}
use Rattle.pic_8259a.specs.Pair.{pin_set}
use Rattle.ioapic_82093aa.specs.Pins.{raised, lowered}
use Rattle.source_levels.specs.Holds.{hold, is_high}
use Rattle.board_model.specs.Chips.{PicPart, pair_of, IoapicPart, ioapic_of}
use Rattle.board_raise.specs.Signal.{pic_raised, pic_let_go, ioapic_raised, ioapic_let_go}

-- a pin of the 8259A pair: its holds are those before with one more, or one less; it is raised on the chip by each hold that
-- comes, lowered when the last one goes, and left as it is while another source holds it
pub record PicFollowsHolds (pic : PicPart) (pin : ℕ) (source : Source) : Type 0 where
  pub raised : pair_of (pic_raised pic pin source) ≡ pin_set (pair_of pic) pin true
  pub lowered : is_high (set.remove pic.holds (hold pin source)) pin ≡ false →
      pair_of (pic_let_go pic pin source) ≡ pin_set (pair_of pic) pin false
  pub stays : is_high (set.remove pic.holds (hold pin source)) pin ≡ true → pair_of (pic_let_go pic pin source) ≡ pair_of pic

-- the same of a pin of the I/O APIC
pub record IoapicFollowsHolds (part : IoapicPart) (pin : ℕ) (source : Source) : Type 0 where
  pub raised : ioapic_of (ioapic_raised part pin source) ≡ raised (ioapic_of part) pin
  pub lowered : is_high (set.remove part.holds (hold pin source)) pin ≡ false →
      ioapic_of (ioapic_let_go part pin source) ≡ lowered (ioapic_of part) pin
  pub stays : is_high (set.remove part.holds (hold pin source)) pin ≡ true → ioapic_of (ioapic_let_go part pin source) ≡ ioapic_of part

-- so it is of each pin that there is
abbrev pub PicPinsFollowHolds : Type 0
PicPinsFollowHolds = (pic : PicPart) (pin : ℕ) (source : Source) → pin < 16 → PicFollowsHolds pic pin source

abbrev pub IoapicPinsFollowHolds : Type 0
IoapicPinsFollowHolds = (part : IoapicPart) (pin : ℕ) (source : Source) → pin < 24 → IoapicFollowsHolds part pin source
