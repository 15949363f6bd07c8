-- Lists in the order of their places.
use Rattle.std.proofs.Common.{◌≡◌, ℕ, suc, ◌+◌, ◌<◌, ◌≤◌, inl, inr, Bool, true, false, nat_eq, nat_lt, cond, List, [], ◌∷◌, filter, length, slice_index_or, refl, sym, ap, ◌∙◌, arith}
use Rattle.std.proofs.lemmas.Bool.Decides.{nat_tests, eqb_tells}
use Rattle.std.specs.List.Sorted.{IsNonDecreasingBy}
use Rattle.irq_base.specs.Faces.{PlacedEntry}
use Rattle.actors.specs.Runs.{at_place}
use Rattle.actors.specs.Turns.{RiseWithin}

-- places do not fall, from this one on
abbrev pub RiseFrom : ℕ → List PlacedEntry → Type 0
RiseFrom low [] = Unit {0}
RiseFrom low (p ∷ ps) = (low ≤ p.at) × RiseFrom p.at ps

pub rise_lower : (low lower : ℕ) (ps : List PlacedEntry) → lower ≤ low → RiseFrom low ps → RiseFrom lower ps
rise_lower low lower [] le rise = tt
rise_lower low lower (p ∷ ps) le (first, rise) = (omega (arith, le, first), rise)

pub rise_of : (low : ℕ) (ps : List PlacedEntry) → IsNonDecreasingBy (λ (p : PlacedEntry). p.at) ps → ((d : PlacedEntry) → 0 < length ps → low ≤ (slice_index_or ps 0 d).at) → RiseFrom low ps
rise_of low [] rising first = tt
rise_of low (p ∷ ps) rising first = (
  first p (omega arith),
  rise_of p.at ps (λ i j d le below. rising (suc i) (suc j) d (omega (arith, le)) (omega (arith, below)))
      (λ d some. rising 0 1 d (omega arith) (omega (arith, some))),
)

pub rise_within : (low high : ℕ) (ps : List PlacedEntry) → RiseWithin low high ps → RiseFrom low ps
rise_within low high [] rise = tt
rise_within low high (p ∷ ps) (first, rise) = (first, rise_lower (p.at + 1) p.at ps (omega arith) (rise_within (p.at + 1) high ps rise))

-- below the first place there is nothing
none_below : (low at : ℕ) (ps : List PlacedEntry) → RiseFrom low ps → at < low → at_place at ps ≡ []
none_below low at [] rise less = refl
none_below low at (p ∷ ps) (first, rise) less =
    ap (λ t. cond t (p ∷ at_place at ps) (at_place at ps)) (let other : nat_eq p.at at ≡ false = grind (first, less, arith, nat_tests) in other)
    ∙ none_below p.at at ps rise (omega (arith, first, less))

itself : (n : ℕ) → nat_eq n n ≡ true
itself n = grind (arith, nat_tests)

first_here : (p : PlacedEntry) (ps : List PlacedEntry) → at_place p.at (p ∷ ps) ≡ p ∷ at_place p.at ps
first_here p ps = ap (λ t. cond t (p ∷ at_place p.at ps) (at_place p.at ps)) (itself p.at)

not_empty : (p : PlacedEntry) (ps : List PlacedEntry) → p ∷ ps ≡ [] → ⊥
not_empty p ps e = cc

-- of two lists with the same calls at each place, neither begins higher
not_higher : (x y : PlacedEntry) (xs ys : List PlacedEntry) → RiseFrom y.at ys → at_place x.at (x ∷ xs) ≡ at_place x.at (y ∷ ys) → x.at < y.at → ⊥
not_higher x y xs ys rise same less = not_empty x (at_place x.at xs) (sym (first_here x xs) ∙ same ∙ none_below y.at x.at (y ∷ ys) (omega arith, rise) less)

abbrev head_or : PlacedEntry → List PlacedEntry → PlacedEntry
head_or d [] = d
head_or d (p ∷ ps) = p

abbrev tail_of : List PlacedEntry → List PlacedEntry
tail_of [] = []
tail_of (p ∷ ps) = ps

tails_at : (x : PlacedEntry) (xs ys : List PlacedEntry) (at : ℕ) (t : Bool) → cond t (x ∷ at_place at xs) (at_place at xs) ≡ cond t (x ∷ at_place at ys) (at_place at ys) → at_place at xs ≡ at_place at ys
tails_at x xs ys at true same = ap tail_of same
tails_at x xs ys at false same = same

same_first : (x y : PlacedEntry) (xs ys : List PlacedEntry) → RiseFrom x.at xs → RiseFrom y.at ys → ((at : ℕ) → at_place at (x ∷ xs) ≡ at_place at (y ∷ ys)) → x ≡ y
same_first x y xs ys up over same = ap (head_or x) (sym (first_here x xs) ∙ same x.at ∙ ap (λ n. at_place n (y ∷ ys)) level ∙ first_here y ys)
  where
    level : x.at ≡ y.at
    level = elim (eqb_tells x.at y.at) [
      | inl h ↦ h.1
      | inr h ↦ absurd (by (nat_lt x.at y.at) refl h.1)
    ]
      where
        by : (t : Bool) → nat_lt x.at y.at ≡ t → (x.at ≡ y.at → ⊥) → ⊥
        by true less apart = not_higher x y xs ys over (same x.at) (grind (less, arith, nat_tests))
        by false more apart = not_higher y x ys xs up (sym (same y.at)) (grind (more, apart, arith, nat_tests))

-- lists in order with the same calls at each place are one
pub ordered_one : (low other : ℕ) (xs ys : List PlacedEntry) → RiseFrom low xs → RiseFrom other ys → ((at : ℕ) → at_place at xs ≡ at_place at ys) → xs ≡ ys
ordered_one low other [] [] up over same = refl
ordered_one low other [] (y ∷ ys) up over same = absurd (not_empty y (at_place y.at ys) (sym (first_here y ys) ∙ sym (same y.at)))
ordered_one low other (x ∷ xs) [] up over same = absurd (not_empty x (at_place x.at xs) (sym (first_here x xs) ∙ same x.at))
ordered_one low other (x ∷ xs) (y ∷ ys) (first, up) (begin, over) same =
    let one : x ≡ y = same_first x y xs ys up over same in
    (λ i. one i ∷ ordered_one x.at y.at xs ys up over
    (λ at. tails_at x xs ys at (nat_eq x.at at) (same at ∙ ap (λ p. at_place at (p ∷ ys)) (sym one))) i)

-- ---- those of one test

swapped : (f : PlacedEntry → Bool) (at : ℕ) (p : PlacedEntry) (s t : Bool) (xs ys zs : List PlacedEntry) → f p ≡ s → nat_eq p.at at ≡ t
    → at_place at xs ≡ zs → filter f ys ≡ zs
    → at_place at (cond s (p ∷ xs) xs) ≡ filter f (cond t (p ∷ ys) ys)
swapped f at p true true xs ys zs mine here a b = ap (λ t. cond t (p ∷ at_place at xs) (at_place at xs)) here ∙ ap (λ l. p ∷ l) (a ∙ sym b) ∙ sym (ap (λ t. cond t (p ∷ filter f ys) (filter f ys)) mine)
swapped f at p true false xs ys zs mine here a b = ap (λ t. cond t (p ∷ at_place at xs) (at_place at xs)) here ∙ a ∙ sym b
swapped f at p false true xs ys zs mine here a b = a ∙ sym b ∙ sym (ap (λ t. cond t (p ∷ filter f ys) (filter f ys)) mine)
swapped f at p false false xs ys zs mine here a b = a ∙ sym b

pub filters_swap : (f : PlacedEntry → Bool) (at : ℕ) (ps : List PlacedEntry) → at_place at (filter f ps) ≡ filter f (at_place at ps)
filters_swap f at [] = refl
filters_swap f at (p ∷ ps) = swapped f at p (f p) (nat_eq p.at at) (filter f ps) (at_place at ps) (filter f (at_place at ps)) refl refl (filters_swap f at ps) refl

rise_kept : (t : Bool) (low : ℕ) (p : PlacedEntry) (xs : List PlacedEntry) → low ≤ p.at → RiseFrom p.at xs → RiseFrom low (cond t (p ∷ xs) xs)
rise_kept true low p xs le rise = (le, rise)
rise_kept false low p xs le rise = rise_lower p.at low xs le rise

pub rise_filtered : (f : PlacedEntry → Bool) (low : ℕ) (ps : List PlacedEntry) → RiseFrom low ps → RiseFrom low (filter f ps)
rise_filtered f low [] rise = tt
rise_filtered f low (p ∷ ps) (first, rise) = rise_kept (f p) low p (filter f ps) first (rise_filtered f p.at ps rise)

-- of two lists with the same calls at each place, the first in order: those of one test are the same where they are in order in the second
pub filtered_one : (f : PlacedEntry → Bool) (low other : ℕ) (ordered all mine : List PlacedEntry) → RiseFrom low ordered → ((at : ℕ) → at_place at ordered ≡ at_place at all)
    → filter f all ≡ mine → RiseFrom other mine → filter f ordered ≡ mine
filtered_one f low other ordered all mine up same is over =
    ordered_one low other (filter f ordered) mine (rise_filtered f low ordered up) over
    (λ at. filters_swap f at ordered ∙ ap (filter f) (same at) ∙ sym (filters_swap f at all) ∙ ap (at_place at) is)
