-- A sound registry has at most 255 irqfds with a resample counter: their triggers differ, and no resample counter is a trigger.
use Rattle.board_step.proofs.Basics.{◌≡◌, ℕ, suc, ◌+◌, ◌≤◌, ◌<◌, Bool, true, false, ◌||◌, nat_eq, if◌then◌else◌, List, [], ◌∷◌, length, map, All, get_or, ◌⊎◌, inl, inr, refl, sym, ap, subst, arith, Some, None, is_some, AllPairs, IfSome, list_any, AllByRecursion, Option, nat_tests, All-head, All-tail, Irqfd, has_trigger, RegistryPart, RegistrationsFit, has_resample, Any, eqb, suc-le-suc, zero-le, IsDistinct, list_any-from_Any, IsDistinct-cons, length-le_from_distinct_below, AreDistinct}
use Rattle.board_step.proofs.CountingRows.{total, resample_weight, resamplers}

-- ---- numbers that differ and are below a bound

abbrev triggers : List Irqfd → List ℕ
triggers rows = map (λ (row : Irqfd). row.trigger) rows

-- the triggers of two irqfds
abbrev Differ : Irqfd → Irqfd → Type 0
Differ row other = has_trigger row.trigger other ≡ false

-- the counter is not the trigger
abbrev IsOther : ℕ → Irqfd → Type 0
IsOther counter row = nat_eq counter row.trigger ≡ false

-- the trigger is below a bound
abbrev IsBelow : ℕ → Irqfd → Type 0
IsBelow n row = row.trigger < n

pairs_head : (row : Irqfd) (rows : List Irqfd) → AllPairs Differ (row ∷ rows) → All (Differ row) rows
pairs_head row rows apart = λ k d below. apart 0 (suc k) d (omega arith) (suc-le-suc below)

pairs_tail : (row : Irqfd) (rows : List Irqfd) → AllPairs Differ (row ∷ rows) → AllPairs Differ rows
pairs_tail row rows apart = λ i j d less below. apart (suc i) (suc j) d (suc-le-suc less) (suc-le-suc below)

turned : (a b : ℕ) → nat_eq a b ≡ false → eqb b a ≡ false
turned a b h = grind (arith, nat_tests, h)

apart_from : (counter : ℕ) (rows : List Irqfd) → All (IsOther counter) rows → AllByRecursion (λ y. eqb counter y ≡ false) (triggers rows)
apart_from counter [] all = tt
apart_from counter (row ∷ rows) all = (All-head (IsOther counter) row rows all, apart_from counter rows (All-tail (IsOther counter) row rows all))

distinct_triggers : (rows : List Irqfd) → AllPairs Differ rows → IsDistinct eqb (triggers rows)
unfolding IsDistinct
distinct_triggers [] apart = tt
distinct_triggers (row ∷ rows) apart =
    IsDistinct-cons eqb row.trigger (triggers rows)
    (apart_from row.trigger rows (λ k d below. turned _ row.trigger (pairs_head row rows apart k d below)))
    (distinct_triggers rows (pairs_tail row rows apart))

below_all : (n : ℕ) (rows : List Irqfd) → All (IsBelow n) rows → (q : ℕ) → list_any (eqb q) (triggers rows) ≡ true → q < n
below_all n [] all q h = cc
below_all n (row ∷ rows) all q h = by_test (eqb q row.trigger) refl (below_all n rows (All-tail (IsBelow n) row rows all) q) h
  where
    by_test : (t : Bool) → eqb q row.trigger ≡ t → (list_any (eqb q) (triggers rows) ≡ true → q < n) → (t || list_any (eqb q) (triggers rows)) ≡ true → q < n
    by_test t h1 h2 h3 = grind (arith, All-head)

length_triggers : (rows : List Irqfd) → length (triggers rows) ≡ length rows
length_triggers [] = refl
length_triggers (row ∷ rows) = ap suc (length_triggers rows)

-- irqfds with different triggers below a bound are no more than the bound, and less where a counter below it is no trigger
few_but_one : (n counter : ℕ) (rows : List Irqfd) → AllPairs Differ rows → All (IsBelow n) rows → counter < n → All (IsOther counter) rows → length rows + 1 ≤ n
few_but_one n counter rows apart below low other =
    omega (
      arith,
      length_triggers rows,
      length-le_from_distinct_below (counter ∷ triggers rows) n
          (IsDistinct-cons eqb counter (triggers rows) (apart_from counter rows other) (distinct_triggers rows apart)) below_too,
    )
  where
    below_too : (q : ℕ) → list_any (eqb q) (counter ∷ triggers rows) ≡ true → q < n
    below_too q h = by_test (eqb q counter) refl h
      where
        by_test : (t : Bool) → eqb q counter ≡ t → (t || list_any (eqb q) (triggers rows)) ≡ true → q < n
        by_test true same h = let e : q ≡ counter = grind (same, arith) in subst (λ m. m < n) (sym e) low
        by_test false _ h = below_all n rows below q h

-- ---- resample counters

-- there is no resample counter, or there is one of some irqfd
some_resample : (rows : List Irqfd) → (total resample_weight rows ≡ 0) ⊎ ((counter : ℕ) × Any (λ (row : Irqfd). row.resample ≡ Some counter) rows)
some_resample [] = inl refl
some_resample (row ∷ rows) = by_resample row.resample refl (some_resample rows)
  where
    by_resample : (o : Option ℕ) → row.resample ≡ o → (total resample_weight rows ≡ 0) ⊎ ((counter : ℕ) × Any (λ (row : Irqfd). row.resample ≡ Some counter) rows) →
        (((if is_some o then 1 else 0) + total resample_weight rows) ≡ 0) ⊎ ((counter : ℕ) × Any (λ (row : Irqfd). row.resample ≡ Some counter) (row ∷ rows))
    by_resample (Some counter) is rest = inr (counter, (0, row, suc-le-suc zero-le, refl, is))
    by_resample None is (inl none) = inl (omega (arith, none))
    by_resample None is (inr (counter, (k, other, below, at, resample))) = inr (counter, (suc k, other, suc-le-suc below, at, resample))

resamplers_at_most : (rows : List Irqfd) → total resample_weight rows ≤ length rows
resamplers_at_most [] = omega arith
resamplers_at_most (row ∷ rows) = by_test (is_some row.resample) (resamplers_at_most rows)
  where
    by_test : (t : Bool) → total resample_weight rows ≤ length rows → (if t then 1 else 0) + total resample_weight rows ≤ suc (length rows)
    by_test true h = omega (arith, h)
    by_test false h = omega (arith, h)

module _ (counters : ℕ) (registry : RegistryPart) (few : counters ≤ 256) (fits : RegistrationsFit counters registry) (distinct : AreDistinct registry) where
  below : All (IsBelow counters) registry.irqfds
  below k d within = (fits.irqfds k d within).trigger

  -- a resample counter is no trigger
  other : (counter : ℕ) → list_any (has_resample counter) registry.irqfds ≡ true → All (IsOther counter) registry.irqfds
  other counter resamples k d within = by_test (nat_eq counter row.trigger) refl
    where
      row : Irqfd
      row = get_or registry.irqfds k d

      by_test : (t : Bool) → nat_eq counter row.trigger ≡ t → t ≡ false
      by_test t h1 = grind arith

  pub few_resamplers : resamplers registry ≤ 255
  few_resamplers = elim (some_resample registry.irqfds) [
    | inl none ↦ omega (arith, none)
    | inr (counter, one) ↦
        omega (arith, few, resamplers_at_most registry.irqfds, few_but_one counters counter registry.irqfds distinct.triggers below (low counter one) (other counter (grind (arith, list_any-from_Any, one))))
  ]
    where
      low : (counter : ℕ) → Any (λ (row : Irqfd). row.resample ≡ Some counter) registry.irqfds → counter < counters
      low counter (k, row, within, at, resample) =
          subst (λ (o : Option ℕ). IfSome o (λ c. c < counters)) resample (subst (λ (r : Irqfd). IfSome r.resample (λ c. c < counters)) at (fits.irqfds k row within).resample)
