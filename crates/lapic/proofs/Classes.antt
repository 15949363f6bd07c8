-- Which request goes first, from the greatest request alone.
use Rattle.std.proofs.Common.{◌≡◌, ℕ, ◌/◌, ◌<◌, ◌≤◌, true, false, nat_lt, Some, None, sym, arith}
use Rattle.std.proofs.lemmas.Bool.Decides.{nat_tests}
use Rattle.std.specs.FinSet as set
use Rattle.irq_bits.specs.Members.{Numbers, IsGreatest}
use Rattle.irq_bits.specs.SetLemmas.{greatest_vector-retain, greatest_vector-retain_none, not_in_empty}
use Rattle.lapic.specs.Priority.{greatest_above}

higher : (p v : ℕ) → p / 16 < v / 16 → nat_lt (p / 16) (v / 16) ≡ true
higher p v h = grind (arith, nat_tests)

no_higher : (p v top : ℕ) → v ≤ top → top / 16 ≤ p / 16 → nat_lt (p / 16) (v / 16) ≡ false
no_higher p v top h k = let below : v / 16 ≤ p / 16 = omega arith in grind (arith, nat_tests)

pub greatest_above-first : (s : Numbers) (p top : ℕ) → IsGreatest s top → top < 256 → p / 16 < top / 16 → Some top ≡ greatest_above s p
unfolding greatest_above
greatest_above-first s p top is below above = sym (greatest_vector-retain s (λ v. nat_lt (p / 16) (v / 16)) top below is (higher p top above))

pub greatest_above-low : (s : Numbers) (p top : ℕ) → IsGreatest s top → top / 16 ≤ p / 16 → None ≡ greatest_above s p
unfolding greatest_above
greatest_above-low s p top is low = sym (greatest_vector-retain_none s (λ v. nat_lt (p / 16) (v / 16)) (λ k on. no_higher p k top (is.no_greater k on) low))

pub greatest_above-none : (s : Numbers) (p : ℕ) → s ≡ set.empty → None ≡ greatest_above s p
unfolding greatest_above
greatest_above-none s p e = sym (greatest_vector-retain_none s (λ v. nat_lt (p / 16) (v / 16)) (λ k on. absurd (not_in_empty s k e on)))

pub ruleset priority_rules = (greatest_above-first, greatest_above-low, greatest_above-none)
