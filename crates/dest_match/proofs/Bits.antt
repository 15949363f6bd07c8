-- Bytes share a bit exactly where their conjunction is not 0.
use Rattle.std.proofs.Common.{◌≡◌, ℕ, ◌<◌, ◌^◌, zero, suc, Bool, true, false, not, ◌&&◌, nat_eq, [], ◌∷◌, inl, inr, bit_and, refl, sym, ap, ◌∙◌, arith}
use Rattle.std.proofs.lemmas.Bool.Decides.{eqb_tells}
use Rattle.std.specs.List.{list_any}
use Rattle.std.specs.Int.Bits.{and_lt}
use Rattle.irq_bits.specs.Members.{is_set}
use Rattle.irq_bits.specs.WordLemmas.{is_set-and}
use Rattle.dest_match.specs.Match.{share_a_bit}

-- ---- a test of all numbers below k

abbrev all_below : ℕ → (ℕ → Bool) → Bool
all_below zero p = true
all_below (suc k) p = p k && all_below k p

both : (a b : Bool) → (a && b) ≡ true → (a ≡ true) × (b ≡ true)
both a b e = grind arith

all_below-at : (k : ℕ) (p : ℕ → Bool) (n : ℕ) → all_below k p ≡ true → n < k → p n ≡ true
all_below-at zero p n all below = absurd (omega arith)
all_below-at (suc k) p n all below =
    let parts = both (p k) (all_below k p) all in
    elim (eqb_tells n k) [
      | inl h ↦ ap p h.1 ∙ parts.0
      | inr h ↦ all_below-at k p n parts.1 (omega (arith, h.1))
    ]

-- ---- a byte has a bit exactly where it is not 0

abbrev has_bit : ℕ → Bool
has_bit w = list_any (is_set w) (0 ∷ 1 ∷ 2 ∷ 3 ∷ 4 ∷ 5 ∷ 6 ∷ 7 ∷ [])

same : Bool → Bool → Bool
same true b = b
same false b = not b

same-is : (a b : Bool) → same a b ≡ true → a ≡ b
unfolding same
same-is true true e = refl
same-is true false e = sym e
same-is false true e = e
same-is false false e = refl

every_byte : all_below 256 (λ w. same (has_bit w) (not (nat_eq w 0))) ≡ true
unfolding same
every_byte = refl

has_bit-is : (w : ℕ) → w < 2 ^ 8 → has_bit w ≡ not (nat_eq w 0)
has_bit-is w fits = same-is _ _ (all_below-at 256 (λ w. same (has_bit w) (not (nat_eq w 0))) w every_byte fits)

pub share_a_bit-is : (a b : ℕ) → a < 2 ^ 8 → b < 2 ^ 8 → share_a_bit a b ≡ not (nat_eq (bit_and a b) 0)
unfolding share_a_bit
share_a_bit-is a b p q =
    (λ i. list_any (λ n. sym (is_set-and a b n) i) (0 ∷ 1 ∷ 2 ∷ 3 ∷ 4 ∷ 5 ∷ 6 ∷ 7 ∷ []))
    ∙ has_bit-is (bit_and a b) (and_lt 8 a b p q)

pub ruleset share_rules = (share_a_bit-is)
