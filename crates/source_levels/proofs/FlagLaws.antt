-- What the operations of words of flags are to the set of holds.
use Rattle.std.proofs.Common.{◌≡◌, ℕ, ◌+◌, ◌*◌, ◌/◌, ◌%◌, ◌^◌, ◌<◌, ◌↔◌, IsTrue, zero, suc, Bool, true, false, not, ◌&&◌, ◌||◌, nat_eq, nat_lt, if◌then◌else◌, inl, inr, List, length, get_or, set, replicate, length-set, bit_and, bit_or, true≢false, refl, sym, ap, ◌∙◌, arith}
use Rattle.std.proofs.lemmas.Bool.Decides.{nat_tests, eqb_tells}
use Rattle.std.proofs.lemmas.List.{get_or-set_same, get_or-set_other, get_or-replicate, length-replicate}
use Rattle.std.specs.FinSet as members
use Rattle.std.specs.FinSet.{contains-empty, contains-insert, contains-remove, contains-retain, same_set}
use Rattle.std.specs.Int.{bit_not, trailing_zeros, w16}
use Rattle.irq_base.specs.declared.message.Source.{Source}
use Rattle.irq_bits.specs.Members.{is_set}
use Rattle.irq_bits.specs.WordLemmas.{is_set-zero, is_set-insert, is_set-remove, lowest_set}
use Rattle.source_levels.specs.Holds.{Hold, Holds, hold, hold_cmp, number_of, source_of, is_of, is_high}
use Rattle.source_levels.proofs.HoldLemmas.{number_given_back, same_hold, hold_cmp_total, hold_tied, hold_cmp-IsAntisymmetric, high_where_held, held_where_high}
use Rattle.source_levels.specs.Flags.{is_held, hold_at, holds_below, holds_of}

none_below : (n : ℕ) (b : Bool) → false ≡ (nat_lt n 0 && b)
none_below n b = grind (arith, nat_tests)

-- one more place
step_in : (pin n k : ℕ) (b : Bool) → (pin ≡ k / 16 → n ≡ k % 16 → b ≡ true) →
    ((nat_eq pin (k / 16) && nat_eq n (k % 16)) || (nat_lt (16 * pin + n) k && (nat_lt n 16 && b))) ≡ (nat_lt (16 * pin + n) (suc k) && (nat_lt n 16 && b))
step_in pin n k b here = grind (arith, nat_tests)

step_out : (pin n k : ℕ) (b : Bool) → (pin ≡ k / 16 → n ≡ k % 16 → b ≡ false) →
    (nat_lt (16 * pin + n) k && (nat_lt n 16 && b)) ≡ (nat_lt (16 * pin + n) (suc k) && (nat_lt n 16 && b))
step_out pin n k b here = grind (arith, nat_tests)

contains-holds_below : (k : ℕ) (p : Hold → Bool) (h : Hold) → members.contains (holds_below k p) h ≡ (nat_lt (16 * h.pin + number_of h.source) k && (nat_lt (number_of h.source) 16 && p h))
unfolding holds_below
contains-holds_below zero p h = contains-empty hold_cmp h ∙ none_below (16 * h.pin + number_of h.source) (nat_lt (number_of h.source) 16 && p h)
contains-holds_below (suc k) p h =
    elim (p (hold_at k)) as (λ b. p (hold_at k) ≡ b → members.contains (if b then members.insert (holds_below k p) (hold_at k) else holds_below k p) h ≡ (nat_lt (16 * h.pin + number_of h.source) (suc k) && (nat_lt (number_of h.source) 16 && p h))) [
      | true ↦ λ e.
          contains-insert hold_cmp_total (holds_below k p) (hold_at k) h
          ∙ (λ i. (hold_tied h (hold_at k) ∙ ap (λ n. nat_eq h.pin (k / 16) && nat_eq (number_of h.source) n) (number_given_back (k % 16))) i || contains-holds_below k p h i)
          ∙ step_in h.pin (number_of h.source) k (p h) (λ pins numbers. ap p (here pins numbers) ∙ e)
      | false ↦ λ e. contains-holds_below k p h ∙ step_out h.pin (number_of h.source) k (p h) (λ pins numbers. ap p (here pins numbers) ∙ e)
    ] refl
  where
    here : h.pin ≡ k / 16 → number_of h.source ≡ k % 16 → h ≡ hold_at k
    here pins numbers = same_hold h (hold_at k) pins (numbers ∙ sym (number_given_back (k % 16)))

in_row : (pin n l : ℕ) (b : Bool) → (nat_lt (16 * pin + n) (16 * l) && (nat_lt n 16 && b)) ≡ (nat_lt pin l && (nat_lt n 16 && b))
in_row pin n l b = grind (arith, nat_tests)

pub contains-holds_of : (words : List ℕ) (h : Hold) → members.contains (holds_of words) h ≡ (nat_lt h.pin (length words) && (nat_lt (number_of h.source) 16 && is_held words h))
unfolding holds_of
contains-holds_of words h = contains-holds_below (16 * length words) (is_held words) h ∙ in_row h.pin (number_of h.source) (length words) (is_held words h)

-- ---- what a write to the word of a pin does

same_flags : (words : List ℕ) (s : Holds) → ((q : Hold) → members.contains s q ≡ (nat_lt q.pin (length words) && (nat_lt (number_of q.source) 16 && is_held words q))) → holds_of words ≡ s
same_flags words s same = same_set hold_cmp_total hold_cmp-IsAntisymmetric _ _ (λ q. contains-holds_of words q ∙ sym (same q))

held-set : (words : List ℕ) (pin v : ℕ) (q : Hold) → pin < length words →
    is_held (set words pin v) q ≡ (if nat_eq q.pin pin then is_set v (number_of q.source) else is_held words q)
held-set words pin v q below =
    elim (eqb_tells q.pin pin) [
      | inl h ↦
          ap (λ k. is_set (get_or (set words pin v) k 0) (number_of q.source)) h.1
          ∙ ap (λ w. is_set w (number_of q.source)) (get_or-set_same words pin v 0 below)
          ∙ ap (λ b. if b then is_set v (number_of q.source) else is_held words q) (sym h.0)
      | inr h ↦
          ap (λ w. is_set w (number_of q.source)) (get_or-set_other words pin q.pin v 0 h.1)
          ∙ ap (λ b. if b then is_set v (number_of q.source) else is_held words q) (sym h.0)
    ]

at_pin : (words : List ℕ) (pin : ℕ) (q : Hold) → q.pin ≡ pin → is_held words q ≡ is_set (get_or words pin 0) (number_of q.source)
at_pin words pin q e = ap (λ k. is_set (get_or words k 0) (number_of q.source)) e

insert_bits : (pin at n m l : ℕ) (old new was now : Bool) → at < l → m < 16 → new ≡ (if nat_eq pin at then now else old) → now ≡ (nat_eq n m || was) → (pin ≡ at → old ≡ was) →
    ((nat_eq pin at && nat_eq n m) || (nat_lt pin l && (nat_lt n 16 && old))) ≡ (nat_lt pin l && (nat_lt n 16 && new))
insert_bits pin at n m l old new was now below small news nows olds = grind (arith, nat_tests)

remove_bits : (pin at n m l : ℕ) (old new was now : Bool) → new ≡ (if nat_eq pin at then now else old) → (n < 16 → now ≡ (not (nat_eq n m) && was)) → (pin ≡ at → old ≡ was) →
    (not (nat_eq pin at && nat_eq n m) && (nat_lt pin l && (nat_lt n 16 && old))) ≡ (nat_lt pin l && (nat_lt n 16 && new))
remove_bits pin at n m l old new was now news nows olds = grind (arith, nat_tests)

clear_bits : (pin at n l : ℕ) (old new : Bool) → new ≡ (if nat_eq pin at then false else old) →
    ((nat_lt pin l && (nat_lt n 16 && old)) && not (nat_eq pin at)) ≡ (nat_lt pin l && (nat_lt n 16 && new))
clear_bits pin at n l old new news = grind (arith, nat_tests)

-- the set is as long as before
in_same_row : (words : List ℕ) (pin v : ℕ) (q : Hold) → (nat_lt q.pin (length words) && (nat_lt (number_of q.source) 16 && is_held (set words pin v) q)) ≡ (nat_lt q.pin (length (set words pin v)) && (nat_lt (number_of q.source) 16 && is_held (set words pin v) q))
in_same_row words pin v q = ap (λ l. nat_lt q.pin l && (nat_lt (number_of q.source) 16 && is_held (set words pin v) q)) (sym (length-set words pin v))

-- `words[pin] |= 1 << n`
pub flags-insert : (words : List ℕ) (pin : ℕ) (source : Source) → pin < length words → number_of source < 16 →
    holds_of (set words pin (bit_or (get_or words pin 0) (1 * 2 ^ number_of source % 2 ^ 16))) ≡ members.insert (holds_of words) (hold pin source)
flags-insert words pin source below small = same_flags _ _ (λ q.
    contains-insert hold_cmp_total (holds_of words) (hold pin source) q
    ∙ (λ i. hold_tied q (hold pin source) i || contains-holds_of words q i)
    ∙ insert_bits q.pin pin (number_of q.source) (number_of source) (length words) _ _ _ _ below small (held-set words pin _ q below) (is_set-insert w16 (get_or words pin 0) (number_of source) (number_of q.source) small) (at_pin words pin q)
    ∙ in_same_row words pin _ q)

-- `words[pin] &= !(1 << n)`
pub flags-remove : (words : List ℕ) (pin : ℕ) (source : Source) → pin < length words → number_of source < 16 →
    holds_of (set words pin (bit_and (get_or words pin 0) (bit_not w16 (1 * 2 ^ number_of source % 2 ^ 16)))) ≡ members.remove (holds_of words) (hold pin source)
flags-remove words pin source below small = same_flags _ _ (λ q.
    contains-remove hold_cmp_total (holds_of words) (hold pin source) q
    ∙ (λ i. not (hold_tied q (hold pin source) i) && contains-holds_of words q i)
    ∙ remove_bits q.pin pin (number_of q.source) (number_of source) (length words) _ _ _ _ (held-set words pin _ q below) (λ in_word. is_set-remove w16 (get_or words pin 0) (number_of source) (number_of q.source) small in_word) (at_pin words pin q)
    ∙ in_same_row words pin _ q)

-- `words[pin] = 0`
pub flags-forget : (words : List ℕ) (pin : ℕ) → pin < length words → holds_of (set words pin 0) ≡ members.retain (holds_of words) (λ h. not (is_of pin h))
flags-forget words pin below = same_flags _ _ (λ q.
    contains-retain (holds_of words) (λ h. not (is_of pin h)) q (λ x tie. ap (λ h. not (is_of pin h)) (sym (hold_cmp-IsAntisymmetric q x tie)))
    ∙ ap (λ b. b && not (is_of pin q)) (contains-holds_of words q)
    ∙ clear_bits q.pin pin (number_of q.source) (length words) _ _ (held-set words pin 0 q below ∙ ap (λ b. if nat_eq q.pin pin then b else is_held words q) (is_set-zero (number_of q.source)))
    ∙ in_same_row words pin 0 q)

no_flag : (pin n l : ℕ) (b : Bool) → (pin < l → b ≡ false) → false ≡ (nat_lt pin l && (nat_lt n 16 && b))
no_flag pin n l b none = grind (arith, nat_tests)

-- `[0; N]`
pub flags-none : (n : ℕ) → holds_of (replicate n 0) ≡ members.empty
flags-none n = same_flags _ _ (λ q. contains-empty hold_cmp q ∙ no_flag q.pin (number_of q.source) (length {A = ℕ} (replicate n 0)) _ (clear q))
  where
    clear : (q : Hold) → q.pin < length {A = ℕ} (replicate n 0) → is_held (replicate n 0) q ≡ false
    clear q below = let within : q.pin < n = omega (arith, below, length-replicate {A = ℕ} n 0) in ap (λ w. is_set w (number_of q.source)) (get_or-replicate {A = ℕ} n q.pin 0 0 within) ∙ is_set-zero (number_of q.source)

-- ---- a pin is high where its word is not 0

held_at_bit : (words : List ℕ) (pin t : ℕ) → pin < length words → t < 16 → is_set (get_or words pin 0) t ≡ true → members.contains (holds_of words) (hold pin (source_of t)) ≡ true
held_at_bit words pin t below small on =
    contains-holds_of words (hold pin (source_of t))
    ∙ ap (λ n. nat_lt pin (length words) && (nat_lt n 16 && is_set (get_or words pin 0) n)) (number_given_back t)
    ∙ all_on pin t (length words) _ below small on
  where
    all_on : (pin t l : ℕ) (b : Bool) → pin < l → t < 16 → b ≡ true → (nat_lt pin l && (nat_lt t 16 && b)) ≡ true
    all_on pin t l b below small on = grind (arith, nat_tests)

bit_of_held : (words : List ℕ) (pin : ℕ) (source : Source) → members.contains (holds_of words) (hold pin source) ≡ true → is_set (get_or words pin 0) (number_of source) ≡ true
bit_of_held words pin source held = last_on _ _ _ (sym (contains-holds_of words (hold pin source)) ∙ held)
  where
    last_on : (a b c : Bool) → (a && (b && c)) ≡ true → c ≡ true
    last_on a b c e = grind arith

pub flags-high : (words : List ℕ) (pin : ℕ) → pin < length words → get_or words pin 0 < 2 ^ 16 → not (nat_eq (get_or words pin 0) 0) ≡ is_high (holds_of words) pin
flags-high words pin below fits =
    elim (eqb_tells (get_or words pin 0) 0) [
      | inl h ↦ ap not h.0 ∙ sym (elim (is_high (holds_of words) pin) as (λ b. is_high (holds_of words) pin ≡ b → b ≡ false) [
        | true ↦ λ high.
            let held = held_where_high (holds_of words) pin high in
            absurd (true≢false (sym (bit_of_held words pin held.0 held.1) ∙ ap (λ w. is_set w (number_of held.0)) h.1 ∙ is_set-zero (number_of held.0)))
        | false ↦ λ _. refl
      ] refl)
      | inr h ↦
          let some : 0 < get_or words pin 0 = omega (arith, h.1) in
          let low = lowest_set w16 (get_or words pin 0) fits some in
          ap not h.0 ∙ sym (high_where_held (holds_of words) pin (source_of (trailing_zeros w16 (get_or words pin 0))) (held_at_bit words pin _ below low.0 low.1))
    ]

-- some source holds a pin that is high, and none another
pub high_is_held : (s : Holds) (pin : ℕ) (b : Bool) → b ≡ is_high s pin → IsTrue b ↔ ((source : Source) × (members.contains s (hold pin source) ≡ true))
high_is_held s pin b e = (λ t. held_where_high s pin (sym e ∙ t), λ held. e ∙ high_where_held s pin held.0 held.1)

pub ruleset flag_rules = (flags-none, flags-insert, flags-remove, flags-forget, flags-high, high_is_held)
