-- The chips in hand are those of the model where the levels of their pins follow the holds, and they follow them still.
use Rattle.std.proofs.Common.{◌≡◌, ℕ, ◌<◌, true, false, refl, sym, ap, ◌∙◌}
use Rattle.std.specs.FinSet as set
use Rattle.irq_base.specs.declared.message.Source.{Source}
use Rattle.pic_8259a.specs.declared.pair.Pair.{Pair}
use Rattle.pic_8259a.specs.declared.chip.PinOutcome.{PinOutcome}
use Rattle.pic_8259a.specs.Pair.{pin_set, pin_outcome}
use Rattle.ioapic_82093aa.specs.declared.ioapic.Ioapic.{Ioapic}
use Rattle.ioapic_82093aa.specs.declared.ioapic.Raise.{Raise}
use Rattle.ioapic_82093aa.specs.Pins.{raised, lowered, raise_of, pin_accepted, pin_acked}
use Rattle.source_levels.specs.Holds.{Holds, hold, is_high}
use Rattle.board_model.specs.Chips as chips
use Rattle.board_model.specs.Chips.{chip_of, without_pins, master_high, slave_high, pair_of, ioapic_high, with_ioapic}
use Rattle.board_raise.specs.declared.parts.PicPart as pic
use Rattle.board_raise.specs.declared.parts.IoPart as io
use Rattle.board_raise.specs.Fit.{PairFits, IoapicFits}
use Rattle.board_raise.specs.InHand.{pic_of, ioapic_of}
use Rattle.board_raise.specs.Signal.{pic_raised, pic_let_go, ioapic_raised, ioapic_let_go}
use Rattle.board_raise.proofs.Pins.{pic_pins_follow_holds, ioapic_pins_follow_holds}

-- ---- the 8259A pair

-- a pair that is the model's, with the model's holds beside it
module _ (part : chips.PicPart) (pair : Pair) (levels : Holds) (chip : pair ≡ pair_of part) (holds : levels ≡ part.holds) where
  pub pic_is : pic_of (record { pair = pair; levels = levels }) ≡ part
  pic_is = λ i. record { master = without_pins (chip i).master; slave = without_pins (chip i).slave; holds = holds i }

  pub pic_fits : PairFits pair levels
  pic_fits = record { master = ap (λ p. p.master.high) chip ∙ ap master_high (sym holds); slave = ap (λ p. p.slave.high) chip ∙ ap slave_high (sym holds) }

module _ (p : pic.PicPart) (fits : PairFits p.pair p.levels) where
  pub pair_is : p.pair ≡ pair_of (pic_of p)
  pair_is = λ i. record { master = chip_of (without_pins p.pair.master) (fits.master i); slave = chip_of (without_pins p.pair.slave) (fits.slave i) }

  module _ (pin : ℕ) (source : Source) (below : pin < 16) where
    pub pic_rises : (pair : Pair) → pair ≡ pin_set p.pair pin true → pair ≡ pair_of (pic_raised (pic_of p) pin source)
    pic_rises pair e = e ∙ ap (λ q. pin_set q pin true) pair_is ∙ sym (pic_pins_follow_holds (pic_of p) pin source below).raised

    pub pic_falls : (pair : Pair) → is_high (set.remove p.levels (hold pin source)) pin ≡ false → pair ≡ pin_set p.pair pin false → pair ≡ pair_of (pic_let_go (pic_of p) pin source)
    pic_falls pair gone e = e ∙ ap (λ q. pin_set q pin false) pair_is ∙ sym ((pic_pins_follow_holds (pic_of p) pin source below).lowered gone)

    pub pic_stays : is_high (set.remove p.levels (hold pin source)) pin ≡ true → p.pair ≡ pair_of (pic_let_go (pic_of p) pin source)
    pic_stays still = pair_is ∙ sym ((pic_pins_follow_holds (pic_of p) pin source below).stays still)

  pub pic_answers : (pin : ℕ) (answer : PinOutcome) → answer ≡ pin_outcome p.pair pin true → answer ≡ pin_outcome (pair_of (pic_of p)) pin true
  pic_answers pin answer e = e ∙ ap (λ q. pin_outcome q pin true) pair_is

-- ---- the I/O APIC

module _ (part : chips.IoapicPart) (chip : Ioapic) (levels : Holds) (same : chip ≡ chips.ioapic_of part) (holds : levels ≡ part.holds) where
  pub ioapic_is : ioapic_of (record { ioapic = chip; levels = levels }) ≡ part
  ioapic_is = λ i. record { entries = (same i).entries; selected = (same i).selected; identity = (same i).identity; holds = holds i }

  pub ioapic_fits : IoapicFits chip levels
  ioapic_fits = ap (λ c. c.high) same ∙ ap ioapic_high (sym holds)

module _ (p : io.IoPart) (fits : IoapicFits p.ioapic p.levels) where
  pub chip_is : p.ioapic ≡ chips.ioapic_of (ioapic_of p)
  chip_is = λ i. record { entries = p.ioapic.entries; high = fits i; selected = p.ioapic.selected; identity = p.ioapic.identity }

  module _ (pin : ℕ) where
    module _ (source : Source) (below : pin < 24) where
      pub ioapic_rises : (chip : Ioapic) → chip ≡ raised p.ioapic pin → chip ≡ chips.ioapic_of (ioapic_raised (ioapic_of p) pin source)
      ioapic_rises chip e = e ∙ ap (λ c. raised c pin) chip_is ∙ sym (ioapic_pins_follow_holds (ioapic_of p) pin source below).raised

      pub ioapic_falls : (chip : Ioapic) → is_high (set.remove p.levels (hold pin source)) pin ≡ false → chip ≡ lowered p.ioapic pin → chip ≡ chips.ioapic_of (ioapic_let_go (ioapic_of p) pin source)
      ioapic_falls chip gone e = e ∙ ap (λ c. lowered c pin) chip_is ∙ sym ((ioapic_pins_follow_holds (ioapic_of p) pin source below).lowered gone)

      pub ioapic_stays : is_high (set.remove p.levels (hold pin source)) pin ≡ true → p.ioapic ≡ chips.ioapic_of (ioapic_let_go (ioapic_of p) pin source)
      ioapic_stays still = chip_is ∙ sym ((ioapic_pins_follow_holds (ioapic_of p) pin source below).stays still)

    pub ioapic_answers : (answer : Raise) → answer ≡ raise_of p.ioapic pin → answer ≡ raise_of (chips.ioapic_of (ioapic_of p)) pin
    ioapic_answers answer e = e ∙ ap (λ c. raise_of c pin) chip_is

    pub ioapic_accepts : (chip : Ioapic) → chip ≡ pin_accepted p.ioapic pin → chip ≡ chips.ioapic_of (with_ioapic (ioapic_of p) (pin_accepted (chips.ioapic_of (ioapic_of p)) pin))
    ioapic_accepts chip e = e ∙ ap (λ c. pin_accepted c pin) chip_is

    pub ioapic_ends : (chip : Ioapic) → chip ≡ pin_acked p.ioapic pin → chip ≡ chips.ioapic_of (with_ioapic (ioapic_of p) (pin_acked (chips.ioapic_of (ioapic_of p)) pin))
    ioapic_ends chip e = e ∙ ap (λ c. pin_acked c pin) chip_is
