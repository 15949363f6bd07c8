-- Places of turns that were won: one more, and how many there can be.
use Rattle.std.proofs.Common.{◌≡◌, ℕ, ◌<◌, ◌≤◌, Bool, true, false, ◌||◌, List, [], ◌∷◌, ◌++◌, length, nat_eq, refl, sym, ap, ◌∙◌, arith, inl, inr}
use Rattle.std.proofs.lemmas.Bool.Decides.{nat_tests, eqb_tells}
use Rattle.std.proofs.lemmas.Map.Steps.{length-le_from_distinct_below}
use Rattle.std.specs.Prelude.{eqb}
use Rattle.std.specs.List.{IsDistinct, AllByRecursion, list_any}
use Rattle.turn_book.specs.Histories.{is_in}
use Rattle.turn_book.specs.Many.{AllBelow, AreApart}
use Rattle.turn_book.proofs.Lists.{in_less}

-- ---- one more

abbrev first_or : Bool → Bool → Bool
first_or t rest = elim t as (λ _. Bool) [ true ↦ true | false ↦ rest ]

pub in_push : (q turn : ℕ) (ps : List ℕ) → is_in q (ps ++ turn ∷ []) ≡ (nat_eq turn q || is_in q ps)
in_push q turn [] = by (nat_eq turn q)
  where
    by : (t : Bool) → first_or t false ≡ (t || false)
    by true = refl
    by false = refl
in_push q turn (p ∷ ps) = ap (first_or (nat_eq p q)) (in_push q turn ps) ∙ by (nat_eq p q) (nat_eq turn q) (is_in q ps)
  where
    by : (s t r : Bool) → first_or s (t || r) ≡ (t || first_or s r)
    by true true r = refl
    by true false r = refl
    by false t r = refl

pub below_push : (n turn : ℕ) (ps : List ℕ) → turn < n → AllBelow n ps → AllBelow n (ps ++ turn ∷ [])
below_push n turn [] low below = (low, tt)
below_push n turn (p ∷ ps) low below = (below.0, below_push n turn ps low below.1)

pub apart_push : (turn : ℕ) (ps : List ℕ) → is_in turn ps ≡ false → AreApart ps → AreApart (ps ++ turn ∷ [])
apart_push turn [] out apart = (refl, tt)
apart_push turn (p ∷ ps) out apart =
    let less = in_less p turn ps out in
    let other : nat_eq turn p ≡ false = (let e = less.1 in grind (arith, nat_tests)) in
    (in_push p turn ps ∙ (λ i. other i || apart.0 i), apart_push turn ps less.0 apart.1)

-- ---- how many

all_differ : (p : ℕ) (ps : List ℕ) → is_in p ps ≡ false → AllByRecursion (λ y. eqb p y ≡ false) ps
all_differ p [] out = tt
all_differ p (d ∷ ds) out =
    let less = in_less d p ds out in
    (let e = less.1 in grind (arith, nat_tests), all_differ p ds less.0)

distinct : (ps : List ℕ) → AreApart ps → IsDistinct eqb ps
unfolding IsDistinct
distinct [] apart = tt
distinct (p ∷ ps) apart = (all_differ p ps apart.0, distinct ps apart.1)

each_below : (n q : ℕ) (ps : List ℕ) → AllBelow n ps → list_any (eqb q) ps ≡ true → q < n
each_below n q [] below has = cc
each_below n q (p ∷ ps) below has = elim (eqb_tells q p) [
  | inl e ↦ (let low = below.0 in let is = e.1 in omega (arith, low, is))
  | inr e ↦ each_below n q ps below.1 (sym (ap (λ t. t || list_any (eqb q) ps) (let no : eqb q p ≡ false = (let f = e.0 in grind (arith, nat_tests)) in no)) ∙ has)
]

pub so_few : (n : ℕ) (ps : List ℕ) → AllBelow n ps → AreApart ps → length ps ≤ n
so_few n ps below apart = length-le_from_distinct_below ps n (distinct ps apart) (λ q has. each_below n q ps below has)
