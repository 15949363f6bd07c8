-- The first ready level is the first that asks or inhibits, unless that one is held back.
use Rattle.std.proofs.Common.{◌≡◌, ℕ, ◌+◌, ◌%◌, ◌<◌, true≢false, Bool, true, false, not, ◌&&◌, ◌||◌, nat_eq, List, [], ◌∷◌, find, Some, None, if◌then◌else◌, refl, sym, ap, ◌∙◌, arith, inl, inr}
use Rattle.std.proofs.lemmas.Bool.Decides.{nat_tests, eqb_tells}
use Rattle.std.specs.List.{list_any}
use Rattle.std.specs.declared.option.Option.{Option}
use Rattle.std.specs.Cmp.{nat_cmp_total}
use Rattle.std.specs.FinSet as set
use Rattle.std.specs.FinSet.{contains-union, contains-difference}
use Rattle.irq_bits.specs.Members.{Numbers}
use Rattle.pic_8259a.specs.Levels.{order, comes_by, highest_of}
use Rattle.pic_8259a.specs.Priority.{first_free, top_of, is_ready, is_inhibited, requests_of, inhibitors_of, nests_specially, IsTop}
use Rattle.pic_8259a.specs.declared.chip.Chip.{Chip}
use Rattle.pic_8259a.specs.declared.chip.Place.{Place}
use Rattle.pic_8259a.proofs.Rotation.{all_below, from_all}

find_same_test : (p q : ℕ → Bool) (xs : List ℕ) → ((n : ℕ) → p n ≡ q n) → find p xs ≡ find q xs
find_same_test p q xs same i = find (λ n. same n i) xs

any_same_test : (p q : ℕ → Bool) (xs : List ℕ) → ((n : ℕ) → p n ≡ q n) → list_any p xs ≡ list_any q xs
any_same_test p q xs same i = list_any (λ n. same n i) xs

pub find_nothing : (p : ℕ → Bool) (xs : List ℕ) → ((n : ℕ) → p n ≡ false) → find p xs ≡ None
find_nothing p [] none = refl
find_nothing p (x ∷ xs) none = ap (λ b. if b then Some x else find p xs) (none x) ∙ find_nothing p xs none

any_nothing : (p : ℕ → Bool) (xs : List ℕ) → ((n : ℕ) → p n ≡ false) → list_any p xs ≡ false
any_nothing p [] none = refl
any_nothing p (x ∷ xs) none = ap (λ b. b || list_any p xs) (none x) ∙ any_nothing p xs none

module _ (nests : Bool) (asks : ℕ → Bool) (holds : ℕ → Bool) where
  abbrev blocks : List ℕ → ℕ → ℕ → Bool
  blocks xs k n = holds k && (comes_by xs k n && not (nests && (nat_eq k 2 && nat_eq n 2)))

  abbrev ready : List ℕ → ℕ → Bool
  ready xs n = asks n && not (list_any (λ k. blocks xs k n) xs)

  abbrev decided : Option ℕ → Option ℕ
  decided None = None
  decided (Some x) = if not (holds x) || (nests && (nat_eq x 2 && asks x)) then Some x else None

  blocks_behind : (x : ℕ) (xs : List ℕ) (k n : ℕ) → holds x ≡ false → nat_eq x n ≡ false → blocks (x ∷ xs) k n ≡ blocks xs k n
  blocks_behind x xs k n off other =
      elim (eqb_tells x k) [
        | inl h ↦ let off_k : holds k ≡ false = ap holds (sym h.1) ∙ off in grind (arith, nat_tests)
        | inr h ↦ grind (arith, nat_tests)
      ]

  ready_behind : (x : ℕ) (xs : List ℕ) (n : ℕ) → holds x ≡ false → asks x ≡ false → ready (x ∷ xs) n ≡ ready xs n
  ready_behind x xs n off quiet =
      elim (eqb_tells x n) [
        | inl h ↦ let quiet_n : asks n ≡ false = ap asks (sym h.1) ∙ quiet in grind (arith, nat_tests)
        | inr h ↦
            ap (λ b. asks n && not ((b && (comes_by (x ∷ xs) x n && not (nests && (nat_eq x 2 && nat_eq n 2)))) || list_any (λ k. blocks (x ∷ xs) k n) xs)) off
            ∙ ap (λ b. asks n && not b) (any_same_test _ _ xs (λ k. blocks_behind x xs k n off h.0))
      ]

  nothing_blocks_first : (x : ℕ) (xs : List ℕ) (k : ℕ) → (holds x ≡ true → (nests && nat_eq x 2) ≡ true) → blocks (x ∷ xs) k x ≡ false
  nothing_blocks_first x xs k free =
      elim (eqb_tells x k) [
        | inl h ↦ let same : holds k ≡ holds x = ap holds (sym h.1) in grind (arith, nat_tests)
        | inr h ↦ grind (arith, nat_tests)
      ]

  first_is_ready : (x : ℕ) (xs : List ℕ) → asks x ≡ true → (holds x ≡ true → (nests && nat_eq x 2) ≡ true) → ready (x ∷ xs) x ≡ true
  first_is_ready x xs asked free = let none = any_nothing (λ k. blocks (x ∷ xs) k x) (x ∷ xs) (λ k. nothing_blocks_first x xs k free) in (λ i. asked i && not (none i))

  first_blocks : (x : ℕ) (xs : List ℕ) (n : ℕ) → holds x ≡ true → (nests && (nat_eq x 2 && asks x)) ≡ false → ready (x ∷ xs) n ≡ false
  first_blocks x xs n on shut =
      elim (eqb_tells x n) [
        | inl h ↦ let same : asks n ≡ asks x = ap asks (sym h.1) in grind (arith, nat_tests)
        | inr h ↦ grind (arith, nat_tests)
      ]

  pub walk : (xs : List ℕ) → decided (find (λ n. asks n || holds n) xs) ≡ find (ready xs) xs
  walk [] = refl
  walk (x ∷ xs) =
      elim (asks x || holds x) as (λ b. (asks x || holds x) ≡ b → decided (if b then Some x else find (λ n. asks n || holds n) xs) ≡ find (ready (x ∷ xs)) (x ∷ xs)) [
        | true ↦ λ met. elim (not (holds x) || (nests && (nat_eq x 2 && asks x))) as (λ b. (not (holds x) || (nests && (nat_eq x 2 && asks x))) ≡ b → (if b then Some x else None) ≡ find (ready (x ∷ xs)) (x ∷ xs)) [
          | true ↦ λ free. sym (ap (λ b. if b then Some x else find (ready (x ∷ xs)) xs) (first_is_ready x xs (grind arith) (λ on. grind arith)))
          | false ↦ λ shut. sym (find_nothing (ready (x ∷ xs)) (x ∷ xs) (λ n. first_blocks x xs n (grind arith) (grind arith)))
        ] refl
        | false ↦ λ met.
            let off : holds x ≡ false = grind arith in
            let quiet : asks x ≡ false = grind arith in
            walk xs ∙ sym (ap (λ b. if b && not (list_any (λ k. blocks (x ∷ xs) k x) (x ∷ xs)) then Some x else find (ready (x ∷ xs)) xs) quiet ∙ find_same_test _ _ xs (λ n. ready_behind x xs n off quiet))
      ] refl

abbrev pub picked : Bool → Numbers → Numbers → Option ℕ → Option ℕ
picked nests asking inhibitors None = None
picked nests asking inhibitors (Some x) = if not (set.contains inhibitors x) || (nests && (nat_eq x 2 && set.contains asking x)) then Some x else None

pub first_free_is : (nests : Bool) (lowest : ℕ) (s t : Numbers) → first_free nests lowest s t ≡ picked nests s t (highest_of lowest (set.union s t))
unfolding first_free highest_of
first_free_is nests lowest s t = sym (ap (picked nests s t) (find_same_test _ _ (order lowest) (λ n. contains-union nat_cmp_total s t n)) ∙ walk nests (set.contains s) (set.contains t) (order lowest))

and_to_the_right : (a b c : Bool) → ((a && b) && c) ≡ (a && (b && c))
and_to_the_right a b c = grind arith

pub top_of-is : (c : Chip) (place : Place) → top_of c place ≡ first_free (nests_specially c place) c.lowest (set.difference (requests_of c place) c.imr) (inhibitors_of c)
unfolding top_of first_free
top_of-is c place = sym (find_same_test tested (is_ready c place) (order c.lowest) (λ n. ap (λ b. b && free n) (contains-difference nat_cmp_total (requests_of c place) c.imr n) ∙ and_to_the_right _ _ (free n)))
  where
    free : ℕ → Bool
    free n = not (is_inhibited (nests_specially c place) (order c.lowest) (inhibitors_of c) n)

    tested : ℕ → Bool
    tested n = set.contains (set.difference (requests_of c place) c.imr) n && free n

-- ---- the first that passes

pub first_found : (p : ℕ → Bool) (xs : List ℕ) (t : ℕ) → find p xs ≡ Some t → (p t ≡ true) × ((n : ℕ) → list_any (nat_eq n) xs ≡ true → p n ≡ true → comes_by xs t n ≡ true)
first_found p [] t found = absurd (cc)
first_found p (x ∷ xs) t found =
    elim (p x) as (λ b. p x ≡ b → (if b then Some x else find p xs) ≡ Some t → (p t ≡ true) × ((n : ℕ) → list_any (nat_eq n) (x ∷ xs) ≡ true → p n ≡ true → comes_by (x ∷ xs) t n ≡ true)) [
      | true ↦ λ on here. let same : x ≡ t = cc in (ap p (sym same) ∙ on, λ n _ _. grind (arith, nat_tests))
      | false ↦ λ off behind.
          let rest = first_found p xs t behind in (
            rest.0,
            λ n listed on. elim (eqb_tells n x) [
              | inl h ↦ absurd (true≢false (sym on ∙ ap p h.1 ∙ off))
              | inr h ↦ let later : comes_by xs t n ≡ true = rest.1 n (grind (arith, nat_tests)) on in grind (arith, nat_tests)
            ],
          )
    ] refl found

none_found : (p : ℕ → Bool) (xs : List ℕ) → find p xs ≡ None → (n : ℕ) → list_any (nat_eq n) xs ≡ true → p n ≡ false
none_found p [] found n listed = absurd (true≢false (sym listed))
none_found p (x ∷ xs) found n listed =
    elim (p x) as (λ b. p x ≡ b → (if b then Some x else find p xs) ≡ None → p n ≡ false) [
      | true ↦ λ on here. absurd (cc)
      | false ↦ λ off behind. elim (eqb_tells n x) [
        | inl h ↦ ap p h.1 ∙ off
        | inr h ↦ none_found p xs behind n (grind (arith, nat_tests))
      ]
    ] refl found

abbrev listed_in : ℕ → Bool
listed_in l = all_below 8 (λ n. list_any (nat_eq n) (order l))

all_listed : all_below 8 listed_in ≡ true
all_listed = refl

order_low : (l : ℕ) → order l ≡ order (l % 8)
order_low l i = (at 1 i) ∷ (at 2 i) ∷ (at 3 i) ∷ (at 4 i) ∷ (at 5 i) ∷ (at 6 i) ∷ (at 7 i) ∷ (at 8 i) ∷ []
  where
    at : (k : ℕ) → (l + k) % 8 ≡ (l % 8 + k) % 8
    at k = omega arith

listed : (l n : ℕ) → n < 8 → list_any (nat_eq n) (order l) ≡ true
listed l n below = ap (list_any (nat_eq n)) (order_low l) ∙ from_all 8 (λ n. list_any (nat_eq n) (order (l % 8))) (from_all 8 listed_in all_listed (l % 8) (omega arith)) n below

pub top_is_first : (c : Chip) (place : Place) (found : Option ℕ) → top_of c place ≡ found → IsTop c place found
unfolding top_of
top_is_first c place None e = λ n below. none_found (is_ready c place) (order c.lowest) e n (listed c.lowest n below)
top_is_first c place (Some t) e =
    let first = first_found (is_ready c place) (order c.lowest) t e in
    (first.0, λ n below on. first.1 n (listed c.lowest n below) on)

pub ruleset top_rules = (top_of-is, top_is_first)
