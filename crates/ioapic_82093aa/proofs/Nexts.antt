-- The first pin of a set from a number on, found in a word by the lowest bit of what is left of it.
use Rattle.std.proofs.Common.{◌≡◌, ℕ, ◌+◌, ◌-◌, ◌/◌, ◌%◌, ◌^◌, ◌<◌, ◌≤◌, Bool, true, false, nat_eq, pow-add, refl, sym, ap, ◌∙◌, arith}
use Rattle.std.proofs.Math.Nat.{div-div-eq-div-mul, div-le_self}
use Rattle.std.specs.Int.{w32, trailing_zeros}
use Rattle.std.specs.FinSet as set
use Rattle.irq_bits.specs.Members.{Numbers, is_set, members_of}
use Rattle.irq_bits.specs.SetLemmas.{contains-set_below_within}
use Rattle.irq_bits.specs.WordLemmas.{is_set-zero, lowest_set}

-- bit j of what is left above the first bits
left_at : (word from j : ℕ) → is_set word (from + j) ≡ is_set (word / 2 ^ from) j
left_at word from j = ap (λ q. nat_eq (q % 2) 1) (ap (λ n. word / n) (pow-add 2 from j) ∙ sym (div-div-eq-div-mul word (2 ^ from) (2 ^ j)))

pub member_left : (word from pin : ℕ) (s : Numbers) → members_of 32 word ≡ s → from ≤ pin → pin < 24 → set.contains s pin ≡ is_set (word / 2 ^ from) (pin - from)
unfolding members_of
member_left word from pin s view on low =
    ap (λ t. set.contains t pin) (sym view)
    ∙ contains-set_below_within 32 (is_set word) pin (omega (arith, low))
    ∙ ap (is_set word) (omega (arith, on))
    ∙ left_at word from (pin - from)

pub left_fits : (word from : ℕ) → word < 2 ^ 32 → word / 2 ^ from < 2 ^ 32
left_fits word from fits = let less = div-le_self word (2 ^ from) in omega (arith, fits, less)

-- nothing is left
pub none_left : (word from pin : ℕ) (s : Numbers) → members_of 32 word ≡ s → from ≤ pin → pin < 24 → word / 2 ^ from ≡ 0 → set.contains s pin ≡ false
none_left word from pin s view on low none = member_left word from pin s view on low ∙ ap (λ w. is_set w (pin - from)) none ∙ is_set-zero (pin - from)

-- the lowest bit of what is left, and none before it
pub first_left : (word from : ℕ) (s : Numbers) → members_of 32 word ≡ s → word / 2 ^ from < 2 ^ 32 → 0 < word / 2 ^ from → from + trailing_zeros w32 (word / 2 ^ from) < 24
    → set.contains s (from + trailing_zeros w32 (word / 2 ^ from)) ≡ true
first_left word from s view fits some low =
    let t = trailing_zeros w32 (word / 2 ^ from) in
    member_left word from (from + t) s view (omega arith) low
    ∙ ap (is_set (word / 2 ^ from)) (omega arith)
    ∙ (lowest_set w32 (word / 2 ^ from) fits some).1

pub none_before : (word from pin : ℕ) (s : Numbers) → members_of 32 word ≡ s → word / 2 ^ from < 2 ^ 32 → 0 < word / 2 ^ from → from ≤ pin → pin < 24 → pin < from + trailing_zeros w32 (word / 2 ^ from)
    → set.contains s pin ≡ false
none_before word from pin s view fits some on low before = by_bit (is_set (word / 2 ^ from) (pin - from)) refl
  where
    by_bit : (b : Bool) → is_set (word / 2 ^ from) (pin - from) ≡ b → set.contains s pin ≡ false
    by_bit false e = member_left word from pin s view on low ∙ e
    by_bit true e = let least = (lowest_set w32 (word / 2 ^ from) fits some).2 (pin - from) e in absurd (impossible least)
      where
        impossible : trailing_zeros w32 (word / 2 ^ from) ≤ pin - from → ⊥
        impossible least = omega (arith, least, before, on)
