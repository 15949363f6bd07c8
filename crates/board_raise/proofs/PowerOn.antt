-- No pin of a chip is high at power-on, as no source holds one.
use Rattle.std.proofs.Common.{◌≡◌, ℕ, ◌+◌, Bool, true, false, true≢false, refl, sym, ◌∙◌, subst}
use Rattle.std.specs.FinSet as set
use Rattle.std.specs.FinSet.{contains-empty}
use Rattle.irq_bits.specs.SetLemmas.{set_below-empty}
use Rattle.pic_8259a.specs.declared.pair.Pair.{Pair}
use Rattle.pic_8259a.specs.Pair.{pair_at_power_on}
use Rattle.ioapic_82093aa.specs.declared.ioapic.Ioapic.{Ioapic}
use Rattle.ioapic_82093aa.specs.Pins.{ioapic_at_power_on}
use Rattle.source_levels.specs.Holds.{Holds, hold, hold_cmp, is_high}
use Rattle.source_levels.proofs.HoldLemmas.{held_where_high}
use Rattle.board_raise.specs.Fit.{PairFits, IoapicFits}

not_high : (pin : ℕ) → is_high set.empty pin ≡ false
not_high pin = by_test (is_high set.empty pin) refl
  where
    by_test : (t : Bool) → is_high set.empty pin ≡ t → t ≡ false
    by_test true high = (let one = held_where_high set.empty pin high in absurd (true≢false (sym one.1 ∙ contains-empty hold_cmp (hold pin one.0))))
    by_test false low = refl

opened_pair : PairFits pair_at_power_on set.empty
opened_pair = record {
  master = sym (set_below-empty 8 (is_high set.empty) (λ n low. not_high n));
  slave = sym (set_below-empty 8 (λ level. is_high set.empty (level + 8)) (λ n low. not_high (n + 8)));
}

opened_ioapic : IoapicFits ioapic_at_power_on set.empty
opened_ioapic = sym (set_below-empty 24 (is_high set.empty) (λ n low. not_high n))

pub pair_at_first : (pair : Pair) (holds : Holds) → pair ≡ pair_at_power_on → holds ≡ set.empty → PairFits pair holds
pair_at_first pair holds p h = subst (λ (x : Pair × Holds). PairFits x.0 x.1) (λ i. (sym p i, sym h i)) opened_pair

pub ioapic_at_first : (chip : Ioapic) (holds : Holds) → chip ≡ ioapic_at_power_on → holds ≡ set.empty → IoapicFits chip holds
ioapic_at_first chip holds p h = subst (λ (x : Ioapic × Holds). IoapicFits x.0 x.1) (λ i. (sym p i, sym h i)) opened_ioapic
