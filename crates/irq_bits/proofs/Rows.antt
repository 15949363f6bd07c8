-- Eight words as a set of vectors: what the operations of words are to the set.
use Rattle.std.proofs.Common.{◌≡◌, ℕ, ◌+◌, ◌*◌, ◌/◌, ◌%◌, ◌^◌, ◌<◌, ◌≤◌, nat_eq, Some, None, List, [], ◌∷◌, length, get_or, set, bit_and, bit_or, sym, ap, ◌∙◌, subst, arith}
use Rattle.std.proofs.lemmas.Nat.Bits.{shr_and_one}
use Rattle.std.specs.Int.{bit_not, trailing_zeros, w32}
use Rattle.std.specs.FinSet as members
use Rattle.irq_bits.specs.Members.{Numbers, is_set, is_set_in, rows_of, row_of, IsLeast, IsGreatest, greatest_vector}
use Rattle.irq_bits.specs.SetLemmas.{contains-set_below_within, set_below-insert, set_below-remove, set_below-empty, least_of, greatest_of, greatest_vector-is, greatest_vector-empty, not_in_empty}
use Rattle.irq_bits.specs.WordLemmas.{lowest_set, is_set_top, clear_above_top}
use Rattle.irq_bits.specs.InverseLemmas.{number_of-bits, mod_small}
use Rattle.irq_bits.proofs.RowLemmas.{is_set_in-zeros, is_set_in-insert, is_set_in-remove, is_set_in-place, lowest_in, highest_in, none_in}

-- no bit is set
pub rows-empty : rows_of (0 ∷ 0 ∷ 0 ∷ 0 ∷ 0 ∷ 0 ∷ 0 ∷ 0 ∷ []) ≡ members.empty
unfolding rows_of
rows-empty = set_below-empty 256 _ is_set_in-zeros

-- `words[n / 32] >> (n % 32) & 1 == 1`
pub rows-test : (words : List ℕ) (n : ℕ) → n < 256 → members.contains (rows_of words) n ≡ nat_eq (bit_and (get_or words (n / 32) 0 / 2 ^ (n % 32)) 1) 1
unfolding rows_of
rows-test words n below = contains-set_below_within 256 (is_set_in words) n below ∙ ap (λ b. nat_eq b 1) (sym (shr_and_one (get_or words (n / 32) 0) (n % 32)))

-- `words[n / 32] |= 1 << (n % 32)`
pub rows-insert : (words : List ℕ) (n : ℕ) → n < 256 → length words ≡ 8 → rows_of (set words (n / 32) (bit_or (get_or words (n / 32) 0) (1 * 2 ^ (n % 32) % 2 ^ 32))) ≡ members.insert (rows_of words) n
unfolding rows_of
rows-insert words n below eight = set_below-insert 256 n _ _ below (λ k _. is_set_in-insert words n k below eight)

-- `words[n / 32] &= !(1 << (n % 32))`
pub rows-remove : (words : List ℕ) (n : ℕ) → n < 256 → length words ≡ 8 → rows_of (set words (n / 32) (bit_and (get_or words (n / 32) 0) (bit_not w32 (1 * 2 ^ (n % 32) % 2 ^ 32)))) ≡ members.remove (rows_of words) n
unfolding rows_of
rows-remove words n below eight = set_below-remove 256 n _ _ (λ k _. is_set_in-remove words n k below eight)

-- the lowest bit of the first word that is not 0
pub rows-least : (words : List ℕ) (k : ℕ) (s : Numbers) → rows_of words ≡ s → k < 8 → ((j : ℕ) → j < k → get_or words j 0 ≡ 0) → 0 < get_or words k 0 → get_or words k 0 < 2 ^ 32 → IsLeast s (32 * k + trailing_zeros w32 (get_or words k 0))
unfolding rows_of
rows-least words k s view below zeros some fits =
    let low = lowest_set w32 (get_or words k 0) fits some in
    let within : 32 * k + trailing_zeros w32 (get_or words k 0) < 256 = omega (arith, low.0) in
    subst (λ (s : Numbers). IsLeast s (32 * k + trailing_zeros w32 (get_or words k 0))) view
    (least_of 256 (is_set_in words) _ within (is_set_in-place words k _ low.0 ∙ low.1) (λ i on. lowest_in words k _ zeros low.0 low.2 i on))

-- the highest bit of the last word that is not 0
pub rows-greatest : (words : List ℕ) (k t : ℕ) (s : Numbers) → rows_of words ≡ s → k < 8 → ((j : ℕ) → k + 1 ≤ j → get_or words j 0 ≡ 0) → t < 32 → 2 ^ t ≤ get_or words k 0 → get_or words k 0 < 2 * 2 ^ t → IsGreatest s (32 * k + t)
unfolding rows_of
rows-greatest words k t s view below zeros small low high =
    let within : 32 * k + t < 256 = omega arith in
    subst (λ (s : Numbers). IsGreatest s (32 * k + t)) view
    (greatest_of 256 (is_set_in words) (32 * k + t) within (is_set_in-place words k t small ∙ is_set_top _ _ low high)
    (λ i on. highest_in words k t (λ j above. zeros j (omega arith)) small (λ n bit. clear_above_top _ _ n high bit) i on))

-- no word has a bit
pub rows-none : (words : List ℕ) (s : Numbers) → rows_of words ≡ s → ((j : ℕ) → j < 8 → get_or words j 0 ≡ 0) → s ≡ members.empty
unfolding rows_of
rows-none words s view zeros = sym view ∙ set_below-empty 256 _ (λ n below. none_in words zeros n below)

-- a word of the row, bit by bit and as a number
pub rows-bit : (words : List ℕ) (k j : ℕ) (s : Numbers) → rows_of words ≡ s → k < 8 → j < 32 → is_set (get_or words k 0) j ≡ members.contains s (32 * k + j)
unfolding rows_of
rows-bit words k j s view row below =
    sym (is_set_in-place words k j below)
    ∙ sym (contains-set_below_within 256 (is_set_in words) (32 * k + j) (omega arith))
    ∙ ap (λ t. members.contains t (32 * k + j)) view

pub rows-word : (words : List ℕ) (k : ℕ) (s : Numbers) → rows_of words ≡ s → k < 8 → get_or words k 0 < 2 ^ 32 → get_or words k 0 ≡ row_of k s
rows-word words k s view row fits = sym (mod_small _ (2 ^ 32) fits) ∙ sym (number_of-bits _ 32 _ (λ j below. sym (rows-bit words k j s view row below)))

-- the greatest member is a function of the set
pub vector-greatest : (s : Numbers) (n : ℕ) → n < 256 → IsGreatest s n → Some n ≡ greatest_vector s
vector-greatest s n below top = sym (greatest_vector-is s n below top)

pub vector-none : (s : Numbers) → s ≡ members.empty → None ≡ greatest_vector s
vector-none s e = sym (greatest_vector-empty s e)

pub not_empty : (s : Numbers) (n : ℕ) → IsLeast s n → s ≡ members.empty → ⊥
not_empty s n low e = not_in_empty s n e low.in_set

pub ruleset row_rules = (rows-empty, rows-test, rows-insert, rows-remove, rows-least, rows-greatest, rows-none, rows-bit, rows-word, vector-greatest, vector-none, not_empty)
