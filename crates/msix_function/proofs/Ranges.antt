-- The numbers below a bound that pass a test, in order.
use Rattle.std.proofs.Common.{◌≡◌, ℕ, zero, suc, ◌+◌, ◌-◌, ◌<◌, ◌≤◌, Bool, true, false, ◌||◌, nat_eq, cond, if◌then◌else◌, List, [], ◌∷◌, ◌++◌, filter, count_by, refl, sym, ap, ◌∙◌, arith}
use Rattle.std.specs.List.{range_with_len}
use Rattle.std.proofs.lemmas.Bool.{true≢false}
use Rattle.std.proofs.lemmas.Bool.Decides.{nat_tests}
use Rattle.std.proofs.lemmas.List.Elements.{filter-append}
use Rattle.std.proofs.lemmas.List.Sums.{sum_by-cons}
use Rattle.msix_function.specs.Balance.{one_if}
use Rattle.msix_function.proofs.Cleared.{is_in}

-- how often a number is one of these
abbrev pub times : ℕ → List ℕ → ℕ
times k ns = count_by (λ n. nat_eq n k) ns

range_split : (a k n m : ℕ) → n ≡ k + suc m → range_with_len a n ≡ range_with_len a k ++ (a + k) ∷ range_with_len (a + k + 1) m
range_split a zero zero m e = absurd (omega (arith, e))
range_split a zero (suc n) m e =
    let is : n ≡ m = omega (arith, e) in
    let at : a ≡ a + 0 = omega arith in
    ap (λ l. a ∷ range_with_len (a + 1) l) is ∙ ap (λ b. b ∷ range_with_len (b + 1) m) at
range_split a (suc k) zero m e = absurd (omega (arith, e))
range_split a (suc k) (suc n) m e =
    let is : n ≡ k + suc m = omega (arith, e) in
    let at : a + 1 + k ≡ a + suc k = omega arith in
    ap (λ l. a ∷ l) (range_split (a + 1) k n m is) ∙ ap (λ b. a ∷ (range_with_len (a + 1) k ++ b ∷ range_with_len (b + 1) m)) at

times_next : (k n : ℕ) (ns : List ℕ) (t : Bool) → nat_eq n k ≡ t → times k (n ∷ ns) ≡ one_if t + times k ns
times_next k n ns t is = sum_by-cons (λ (m : ℕ). cond (nat_eq m k) 1 0) n ns ∙ ap (λ b. cond b 1 0 + times k ns) is

apart : (a k : ℕ) → a < k → nat_eq a k ≡ false
apart a k less = grind (arith, nat_tests)

same_number : (a k : ℕ) → nat_eq a k ≡ true → a ≡ k
same_number a k is = grind (arith, nat_tests)

module _ (p : ℕ → Bool) where
  abbrev pub passing : ℕ → List ℕ
  passing n = filter p (range_with_len 0 n)

  at_head : (k : ℕ) (ns : List ℕ) (t : Bool) → p k ≡ t → filter p (k ∷ ns) ≡ (if t then k ∷ filter p ns else filter p ns)
  at_head k ns true is = ap (λ b. cond b (k ∷ filter p ns) (filter p ns)) is
  at_head k ns false is = ap (λ b. cond b (k ∷ filter p ns) (filter p ns)) is

  split_at : (k n m : ℕ) → n ≡ k + suc m → passing n ≡ passing k ++ filter p (k ∷ range_with_len (k + 1) m)
  split_at k n m e =
      let at : 0 + k ≡ k = omega arith in
      ap (filter p) (range_split 0 k n m e ∙ ap (λ b. range_with_len 0 k ++ b ∷ range_with_len (b + 1) m) at)
      ∙ filter-append p (range_with_len 0 k) (k ∷ range_with_len (k + 1) m)

  -- one more number that passes, and one that does not
  pub passing_more : (k : ℕ) → p k ≡ true → passing (k + 1) ≡ passing k ++ k ∷ []
  passing_more k passes = let one : k + 1 ≡ k + suc 0 = omega arith in split_at k (k + 1) 0 one ∙ ap (λ l. passing k ++ l) (at_head k [] true passes)

  pub passing_same : (k : ℕ) → p k ≡ false → passing (k + 1) ≡ passing k ++ []
  passing_same k fails = let one : k + 1 ≡ k + suc 0 = omega arith in split_at k (k + 1) 0 one ∙ ap (λ l. passing k ++ l) (at_head k [] false fails)

  -- where the number k passes, all that pass are those below it, k, and others
  pub passing_from : (k n : ℕ) → k < n → p k ≡ true → passing n ≡ passing k ++ k ∷ filter p (range_with_len (k + 1) (n - (k + 1)))
  passing_from k n below passes =
      let e : n ≡ k + suc (n - (k + 1)) = omega (arith, below) in
      split_at k n (n - (k + 1)) e ∙ ap (λ l. passing k ++ l) (at_head k (range_with_len (k + 1) (n - (k + 1))) true passes)

  next_not : (a k : ℕ) (ns : List ℕ) (t : Bool) → p a ≡ t → nat_eq a k ≡ false → is_in k (filter p ns) ≡ false → is_in k (filter p (a ∷ ns)) ≡ false
  next_not a k ns true is differ more = ap (is_in k) (at_head a ns true is) ∙ (λ i. differ i || more i)
  next_not a k ns false is differ more = ap (is_in k) (at_head a ns false is) ∙ more

  -- no number at or above the bound is one of them
  not_above : (a n k : ℕ) → a + n ≤ k → is_in k (filter p (range_with_len a n)) ≡ false
  not_above a zero k above = refl
  not_above a (suc n) k above =
      let differ : nat_eq a k ≡ false = apart a k (omega (arith, above)) in
      next_not a k (range_with_len (a + 1) n) (p a) refl differ (not_above (a + 1) n k (omega (arith, above)))

  pub not_there : (k : ℕ) → is_in k (passing k) ≡ false
  not_there k = not_above 0 k k (omega arith)

  -- none below the first, and each at most once and only where it passes
  abbrev Few : ℕ → ℕ → List ℕ → Type 0
  Few a k ns = (k < a → times k (filter p ns) ≡ 0) × (times k (filter p ns) ≤ one_if (p k))

  next_few : (a k : ℕ) (ns : List ℕ) (t same : Bool) → p a ≡ t → nat_eq a k ≡ same → Few (a + 1) k ns → Few a k (a ∷ ns)
  next_few a k ns true true is as_is more =
      let one = times_next k a (filter p ns) true as_is in
      let all = ap (times k) (at_head a ns true is) in
      let at : a ≡ k = same_number a k as_is in
      let passes : one_if (p k) ≡ 1 = ap one_if (ap p (sym at) ∙ is) in
      (λ less. absurd (omega (arith, less, at)), (let none = more.0 (omega (arith, at)) in omega (arith, one, all, passes, none)))
  next_few a k ns true false is as_is more =
      let one = times_next k a (filter p ns) false as_is in
      let all = ap (times k) (at_head a ns true is) in
      (λ less. (let none = more.0 (omega (arith, less)) in omega (arith, one, all, none)), (let most = more.1 in omega (arith, one, all, most)))
  next_few a k ns false same is as_is more =
      let all = ap (times k) (at_head a ns false is) in
      (λ less. all ∙ more.0 (omega (arith, less)), (let most = more.1 in omega (arith, all, most)))

  few : (a n k : ℕ) → Few a k (range_with_len a n)
  few a zero k = (λ _. refl, omega arith)
  few a (suc n) k = next_few a k (range_with_len (a + 1) n) (p a) (nat_eq a k) refl refl (few (a + 1) n k)

  pub at_most_once : (n k : ℕ) → times k (passing n) ≤ one_if (p k)
  at_most_once n k = (few 0 n k).1

-- a number is one of these where it is so at least once
abbrev Counts : ℕ → List ℕ → Type 0
Counts k ns = (is_in k ns ≡ true → 1 ≤ times k ns) × (is_in k ns ≡ false → times k ns ≡ 0)

next_counts : (k n : ℕ) (ns : List ℕ) (t : Bool) → nat_eq n k ≡ t → Counts k ns → Counts k (n ∷ ns)
next_counts k n ns true is more =
    let one = times_next k n ns true is in
    (λ _. omega (arith, one), λ e. absurd (true≢false (sym (ap (λ t. t || is_in k ns) is) ∙ e)))
next_counts k n ns false is more =
    let one = times_next k n ns false is in (
      λ e. let there = more.0 (ap (λ t. t || is_in k ns) (sym is) ∙ e) in omega (arith, one, there),
      λ e. let none = more.1 (ap (λ t. t || is_in k ns) (sym is) ∙ e) in omega (arith, one, none),
    )

pub is_in_times : (k : ℕ) (ns : List ℕ) → Counts k ns
is_in_times k [] = (λ e. cc, λ _. refl)
is_in_times k (n ∷ ns) = next_counts k n ns (nat_eq n k) refl (is_in_times k ns)
