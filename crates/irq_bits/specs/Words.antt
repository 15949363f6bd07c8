-- A word as the set of the places of its ones, at any width: what the operations of words are to the sets.
use Rattle.std.proofs.Common.{◌≡◌, ℕ, ◌*◌, ◌/◌, ◌%◌, ◌^◌, ◌<◌, ◌≤◌, false, nat_eq, bit_and, bit_or, sym, ap, subst, ◌∙◌, arith}
use Rattle.std.proofs.lemmas.Bool.Decides.{nat_tests}
use Rattle.std.proofs.lemmas.Nat.Bits.{shr_and_one}
use Rattle.std.proofs.lemmas.Nat.{or_lt}
use Rattle.std.specs.Int.{Width, bit_not, trailing_zeros, w64}
use Rattle.std.specs.FinSet as set
use Rattle.irq_bits.specs.Members.{Numbers, is_set, members_of, word_of, IsLeast, IsGreatest}
use Rattle.irq_bits.specs.SetLemmas.{contains-set_below, contains-set_below_within, set_below-insert, set_below-remove}
use Rattle.irq_bits.specs.SetLemmas.{set_below-remove_outside, set_below-union, set_below-intersection, set_below-difference}
use Rattle.irq_bits.specs.SetLemmas.{set_below-empty, empty_passes, least_of, greatest_of}
use Rattle.irq_bits.specs.WordLemmas.{is_set-zero, is_set-or, is_set-and, is_set-minus, is_set-insert, is_set-remove, zero_from_none}
use Rattle.irq_bits.specs.WordLemmas.{lowest_set, is_set_top, clear_above_top, is_set_within}
use Rattle.irq_bits.specs.InverseLemmas.{word_given_back}
use mir.Val.{bits}

-- `word >> k & 1 == 1`
pub members_of-test : (size word k : ℕ) → k < size → set.contains (members_of size word) k ≡ nat_eq (bit_and (word / 2 ^ k) 1) 1
unfolding members_of
members_of-test size word k below = contains-set_below_within size (is_set word) k below ∙ ap (λ b. nat_eq b 1) (sym (shr_and_one word k))

pub members_of-outside : (size word k : ℕ) → size ≤ k → set.contains (members_of size word) k ≡ false
unfolding members_of
members_of-outside size word k outside = let members = contains-set_below size (is_set word) k in grind (arith, nat_tests)

-- `0`
pub members_of-zero : (size : ℕ) → members_of size 0 ≡ set.empty
unfolding members_of
members_of-zero size = set_below-empty size _ (λ n _. is_set-zero n)

-- `a | b`
pub members_of-or : (size a b : ℕ) → members_of size (bit_or a b) ≡ set.union (members_of size a) (members_of size b)
unfolding members_of
members_of-or size a b = set_below-union size _ _ _ (λ n _. is_set-or a b n)

-- `a & b`
pub members_of-and : (size a b : ℕ) → members_of size (bit_and a b) ≡ set.intersection (members_of size a) (members_of size b)
unfolding members_of
members_of-and size a b = set_below-intersection size _ _ _ (λ n _. is_set-and a b n)

-- `a & !b`
pub members_of-minus : (size : Width) (a b : ℕ) → b < 2 ^ bits size → members_of (bits size) (bit_and a (bit_not size b))
    ≡ set.difference (members_of (bits size) a) (members_of (bits size) b)
unfolding members_of
members_of-minus size a b fits = set_below-difference (bits size) _ _ _ (λ n below. is_set-minus size a b n fits below)

-- `word | 1 << k`
pub members_of-insert : (size : Width) (word k : ℕ) → k < bits size
    → members_of (bits size) (bit_or word (1 * 2 ^ k % 2 ^ bits size)) ≡ set.insert (members_of (bits size) word) k
unfolding members_of
members_of-insert size word k below = set_below-insert (bits size) k _ _ below (λ n _. is_set-insert size word k n below)

-- `word & !(1 << k)`
pub members_of-remove : (size : Width) (word k : ℕ) → k < bits size
    → members_of (bits size) (bit_and word (bit_not size (1 * 2 ^ k % 2 ^ bits size))) ≡ set.remove (members_of (bits size) word) k
unfolding members_of
members_of-remove size word k below = set_below-remove (bits size) k _ _ (λ n in_word. is_set-remove size word k n below in_word)

pub members_of-remove_outside : (size word k : ℕ) → size ≤ k → members_of size word ≡ set.remove (members_of size word) k
unfolding members_of
members_of-remove_outside size word k outside = set_below-remove_outside size k (is_set word) outside

-- a word of that many bits is given back
pub members_of-word : (size word : ℕ) → word < 2 ^ size → word_of size (members_of size word) ≡ word
unfolding members_of
members_of-word size word fits = word_given_back size word fits

-- a word and its set are empty together
pub zero_from_empty : (word : ℕ) → word < 2 ^ 64 → members_of 64 word ≡ set.empty → word ≡ 0
unfolding members_of
zero_from_empty word fits e = zero_from_none word fits (λ n below. empty_passes 64 (is_set word) n e below)

-- the lowest bit of a word is the least member, the highest the greatest
pub least_member : (size : Width) (word : ℕ) → word < 2 ^ bits size → 0 < word
    → IsLeast (members_of (bits size) word) (trailing_zeros size word)
unfolding members_of
least_member size word fits some = let low = lowest_set size word fits some in least_of (bits size) (is_set word) _ low.0 low.1 low.2

pub greatest_member : (size word k : ℕ) → k < size → 2 ^ k ≤ word → word < 2 * 2 ^ k → IsGreatest (members_of size word) k
unfolding members_of
greatest_member size word k below low high =
    greatest_of size (is_set word) k below (is_set_top word k low high) (λ n on. clear_above_top word k n high on)

-- ---- the same at 64 bits, as rules

pub cpu-least : (word : ℕ) (s : Numbers) → members_of 64 word ≡ s → word < 2 ^ 64 → 0 < word → IsLeast s (trailing_zeros w64 word)
cpu-least word s view fits some = subst (λ (s : Numbers). IsLeast s (trailing_zeros w64 word)) view (least_member w64 word fits some)

pub cpu-greatest : (word k : ℕ) (s : Numbers) → members_of 64 word ≡ s → k < 64 → 2 ^ k ≤ word → word < 2 * 2 ^ k → IsGreatest s k
cpu-greatest word k s view below low high = subst (λ (s : Numbers). IsGreatest s k) view (greatest_member 64 word k below low high)

pub cpu-bit : (word n : ℕ) → word < 2 ^ 64 → is_set word n ≡ set.contains (members_of 64 word) n
unfolding members_of
cpu-bit word n fits = is_set_within word n fits ∙ sym (contains-set_below 64 (is_set word) n)

pub cpu-or_fits : (a b : ℕ) → a < 2 ^ 64 → b < 2 ^ 64 → bit_or a b < 2 ^ 64
cpu-or_fits a b = or_lt 64 a b

pub cpu-test : (word k : ℕ) → k < 64 → set.contains (members_of 64 word) k ≡ nat_eq (bit_and (word / 2 ^ k) 1) 1
cpu-test word k below = members_of-test 64 word k below

pub cpu-outside : (word k : ℕ) → 64 ≤ k → set.contains (members_of 64 word) k ≡ false
cpu-outside word k outside = members_of-outside 64 word k outside

pub cpu-empty : members_of 64 0 ≡ set.empty
cpu-empty = members_of-zero 64

pub cpu-union : (a b : ℕ) → members_of 64 (bit_or a b) ≡ set.union (members_of 64 a) (members_of 64 b)
cpu-union a b = members_of-or 64 a b

pub cpu-insert : (word k : ℕ) → k < 64 → members_of 64 (bit_or word (1 * 2 ^ k % 2 ^ 64)) ≡ set.insert (members_of 64 word) k
cpu-insert word k below = members_of-insert w64 word k below

pub cpu-remove : (word k : ℕ) → k < 64 → members_of 64 (bit_and word (bit_not w64 (1 * 2 ^ k % 2 ^ 64))) ≡ set.remove (members_of 64 word) k
cpu-remove word k below = members_of-remove w64 word k below

pub cpu-remove_outside : (word k : ℕ) → 64 ≤ k → members_of 64 word ≡ set.remove (members_of 64 word) k
cpu-remove_outside word k outside = members_of-remove_outside 64 word k outside

pub cpu-word : (word : ℕ) → word < 2 ^ 64 → word_of 64 (members_of 64 word) ≡ word
cpu-word word fits = members_of-word 64 word fits

pub ruleset cpu_rules = (
  cpu-test,
  cpu-outside,
  cpu-empty,
  cpu-union,
  cpu-insert,
  cpu-remove,
  cpu-remove_outside,
  cpu-word,
  cpu-bit,
  cpu-or_fits,
  cpu-least,
  cpu-greatest,
  zero_from_empty,
)
