-- What registrations keep when a row comes or goes.
use Rattle.board_step.proofs.Basics.{◌≡◌, ◌≢◌, ℕ, ◌≤◌, suc, Bool, true, false, cond, not, ◌&&◌, ◌||◌, nat_eq, List, [], ◌∷◌, ◌++◌, length, filter, All, Some, refl, sym, ap, subst, ◌∙◌, arith, is_some, find, AllPairs, list_any, AllByRecursion, first_so, second_so, unsigned_Decides, Irqfd, has_trigger, is_named, resamples, has_resampler, named_row, without_row, All-from_recursion, recursion_from_All, all_pairs_push}

pub or_neither : (a b : Bool) → (a || b) ≡ false → (a ≡ false) × (b ≡ false)
or_neither a b h1 = grind arith

pub or_both : (a b : Bool) → a ≡ false → b ≡ false → (a || b) ≡ false
or_both a b h1 h2 = grind arith

fails_on : {X : Type 0} (p : X → Bool) (xs : List X) → list_any p xs ≡ false → AllByRecursion (λ x. p x ≡ false) xs
fails_on p [] none = tt
fails_on p (x ∷ xs) none = let each = or_neither (p x) (list_any p xs) none in (each.0, fails_on p xs each.1)

-- what no element passes, each fails
pub each_fails : {X : Type 0} (p : X → Bool) (xs : List X) → list_any p xs ≡ false → All (λ x. p x ≡ false) xs
each_fails p xs none = All-from_recursion (λ x. p x ≡ false) xs (fails_on p xs none)

-- one element more at the end, of which R holds with each earlier one
pub pairs_push : {X : Type 0} (R : X → X → Type 0) (xs : List X) (y : X) → AllPairs R xs → All (λ x. R x y) xs → AllPairs R (xs ++ y ∷ [])
pairs_push R xs y pairs each = all_pairs_push R xs y pairs each

-- a filter passes no more
pub any_fewer : {X : Type 0} (p keep : X → Bool) (xs : List X) → list_any p (filter keep xs) ≡ true → list_any p xs ≡ true
any_fewer p keep [] e = e
any_fewer p keep (x ∷ xs) e =
    elim (keep x) as (λ t. list_any p (cond t (x ∷ filter keep xs) (filter keep xs)) ≡ true → (p x || list_any p xs) ≡ true) [
      | true ↦ λ any. elim (p x) as (λ t. (t || list_any p (filter keep xs)) ≡ true → (t || list_any p xs) ≡ true) [
        | true ↦ λ _. refl
        | false ↦ λ rest. any_fewer p keep xs rest
      ] any
      | false ↦ λ rest. later (p x) (list_any p xs) (any_fewer p keep xs rest)
    ] e
  where
    later : (a b : Bool) → b ≡ true → (a || b) ≡ true
    later a b h1 = grind arith

pub none_fewer : {X : Type 0} (p keep : X → Bool) (xs : List X) → list_any p xs ≡ false → list_any p (filter keep xs) ≡ false
none_fewer p keep xs h1 = grind (arith, any_fewer)

-- a filter keeps no more
pub length_fewer : {X : Type 0} (keep : X → Bool) (xs : List X) → length (filter keep xs) ≤ length xs
length_fewer keep [] = omega arith
length_fewer keep (x ∷ xs) = elim (keep x) as (λ t. length (cond t (x ∷ filter keep xs) (filter keep xs)) ≤ length (x ∷ xs)) [
  | true ↦ let rest = length_fewer keep xs in omega arith
  | false ↦ let rest = length_fewer keep xs in omega arith
]

-- ---- the row of an irqfd goes

named_of : (trigger gsi : ℕ) (rows : List Irqfd) (row : Irqfd) → named_row rows trigger gsi ≡ Some row → is_named trigger gsi row ≡ true
named_of trigger gsi [] row e = cc
named_of trigger gsi (x ∷ xs) row e = elim (is_named trigger gsi x) as (λ t. is_named trigger gsi x ≡ t → cond t (Some x) (find (is_named trigger gsi) xs) ≡ Some row → is_named trigger gsi row ≡ true) [
  | true ↦ λ on is. let same : x ≡ row = cc in ap (is_named trigger gsi) (sym same) ∙ on
  | false ↦ λ _ rest. named_of trigger gsi xs row rest
] refl e

pub named_gsi : (trigger gsi : ℕ) (rows : List Irqfd) (row : Irqfd) → named_row rows trigger gsi ≡ Some row → row.gsi ≡ gsi
named_gsi trigger gsi rows row e = (unsigned_Decides row.gsi gsi).0 (second_so (nat_eq row.trigger trigger) _ (named_of trigger gsi rows row e))

-- the resamplers of another GSI stay
pub resampler_stays : (trigger gsi other : ℕ) (rows : List Irqfd) → other ≢ gsi → has_resampler rows other ≡ true → has_resampler (without_row rows trigger gsi) other ≡ true
resampler_stays trigger gsi other [] ne e = e
resampler_stays trigger gsi other (x ∷ xs) ne e =
    elim (is_named trigger gsi x) as (λ t. is_named trigger gsi x ≡ t → list_any (resamples other) (cond (not t) (x ∷ without_row xs trigger gsi) (without_row xs trigger gsi)) ≡ true) [
      | true ↦ λ named. resampler_stays trigger gsi other xs ne (rest (nat_eq x.gsi other) (is_some x.resample) _ (let at : x.gsi ≡ gsi = (unsigned_Decides x.gsi gsi).0 (second_so (nat_eq x.trigger trigger) _ named) in apart x.gsi (λ e. ne (sym e ∙ at))) e)
      | false ↦ λ _. elim (resamples other x) as (λ t. (t || list_any (resamples other) xs) ≡ true → (t || list_any (resamples other) (without_row xs trigger gsi)) ≡ true) [
        | true ↦ λ _. refl
        | false ↦ λ later. resampler_stays trigger gsi other xs ne later
      ] e
    ] refl
  where
    rest : (a b c : Bool) → a ≡ false → ((a && b) || c) ≡ true → c ≡ true
    rest a b c e f = grind arith

    apart : (n : ℕ) → n ≢ other → nat_eq n other ≡ false
    apart n h = grind arith

-- where no row has the trigger, all rows stay
all_stay : (trigger gsi : ℕ) (rows : List Irqfd) → AllByRecursion (λ (row : Irqfd). has_trigger trigger row ≡ false) rows → without_row rows trigger gsi ≡ rows
all_stay trigger gsi [] none = refl
all_stay trigger gsi (x ∷ xs) none = ap (λ t. cond (not (t && nat_eq x.gsi gsi)) (x ∷ without_row xs trigger gsi) (without_row xs trigger gsi)) none.0 ∙ ap (λ rest. x ∷ rest) (all_stay trigger gsi xs none.1)

pub pairs_head : {X : Type 0} (R : X → X → Type 0) (x : X) (xs : List X) → AllPairs R (x ∷ xs) → All (R x) xs
pairs_head R x xs pairs k d below = pairs 0 (suc k) d (omega arith) (omega (arith, below))

pub pairs_tail : {X : Type 0} (R : X → X → Type 0) (x : X) (xs : List X) → AllPairs R (x ∷ xs) → AllPairs R xs
pairs_tail R x xs pairs i j d less below = pairs (suc i) (suc j) d (omega (arith, less)) (omega (arith, below))

-- where the row that goes has no resample counter, the resamplers stay
pub resamplers_stay : (trigger gsi : ℕ) (rows : List Irqfd) (row : Irqfd) → AllPairs (λ (a b : Irqfd). has_trigger a.trigger b ≡ false) rows → named_row rows trigger gsi ≡ Some row → is_some row.resample ≡ false → has_resampler rows gsi ≡ true → has_resampler (without_row rows trigger gsi) gsi ≡ true
resamplers_stay trigger gsi [] row pairs e none any = any
resamplers_stay trigger gsi (x ∷ xs) row pairs e none any =
    elim (is_named trigger gsi x) as (λ t. is_named trigger gsi x ≡ t → cond t (Some x) (find (is_named trigger gsi) xs) ≡ Some row → list_any (resamples gsi) (cond (not t) (x ∷ without_row xs trigger gsi) (without_row xs trigger gsi)) ≡ true) [
      | true ↦ λ on is.
          let same : x ≡ row = cc in
          let at : x.trigger ≡ trigger = (unsigned_Decides x.trigger trigger).0 (first_so _ _ on) in
          let others = recursion_from_All (λ (b : Irqfd). has_trigger trigger b ≡ false) xs (subst (λ n. All (λ (b : Irqfd). has_trigger n b ≡ false) xs) at (pairs_head (λ (a b : Irqfd). has_trigger a.trigger b ≡ false) x xs pairs)) in
          ap (list_any (resamples gsi)) (all_stay trigger gsi xs others) ∙ rest (nat_eq x.gsi gsi) (is_some x.resample) _ (ap (λ (i : Irqfd). is_some i.resample) same ∙ none) any
      | false ↦ λ _ is. elim (resamples gsi x) as (λ t. (t || list_any (resamples gsi) xs) ≡ true → (t || list_any (resamples gsi) (without_row xs trigger gsi)) ≡ true) [
        | true ↦ λ _. refl
        | false ↦ λ later. resamplers_stay trigger gsi xs row (pairs_tail (λ (a b : Irqfd). has_trigger a.trigger b ≡ false) x xs pairs) is none later
      ] any
    ] refl e
  where
    rest : (a b c : Bool) → b ≡ false → ((a && b) || c) ≡ true → c ≡ true
    rest a b c e f = grind arith
