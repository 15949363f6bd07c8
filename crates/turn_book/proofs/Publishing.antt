-- Histories with equally many publications have the same published words
use Rattle.std.proofs.Common.{◌≡◌, ℕ, ◌+◌, Bool, true, false, List, [], ◌∷◌, ◌++◌, refl, sym, ap, ◌∙◌, arith, cond}
use Rattle.std.specs.Prelude.{count_by}
use Rattle.std.proofs.lemmas.List.Sums.{sum_by-append, sum_by-cons}
use Rattle.turn_book.specs.Histories.{Runs}
use Rattle.turn_book.specs.Banks.{GenerationsHaveWords}
use Rattle.turn_book.proofs.Lists.{runs-one}

module _ {S E : Type 0} (steps : S → E → S → Type 0) (published : S → List ℕ) (publishes : E → Bool) (stay : (s : S) (e : E) (t : S) → steps s e t → publishes e ≡ false → published t ≡ published s) where
  -- entries none of which is a publication leave the words
  same_along : (s t : S) (h : List E) → Runs steps s h t → count_by publishes h ≡ 0 → published t ≡ published s
  same_along s t [] runs none = ap published runs
  same_along s t (e ∷ es) (m, step, later) none = by_test (same_along m t es later) (publishes e) refl (sym (sum_by-cons (λ x. cond (publishes x) 1 0) e es) ∙ none)
    where
      by_test : (count_by publishes es ≡ 0 → published t ≡ published m) → (q : Bool) → publishes e ≡ q → (cond q 1 0 + count_by publishes es) ≡ 0 → published t ≡ published s
      by_test again true is none = absurd (omega arith)
      by_test again false is none = again (let n : count_by publishes es ≡ 0 = omega arith in n) ∙ stay s e m step is

  -- a history of two parts
  split_at : (s t : S) (h k : List E) → Runs steps s (h ++ k) t → (m : S) × (Runs steps s h m × Runs steps m k t)
  split_at s t [] k runs = (s, (refl, runs))
  split_at s t (e ∷ es) k (m, step, later) = (let (n, both) = split_at m t es k later in (n, ((m, step, both.0), both.1)))

  pub same_words : ((s : S) (e : E) (t u : S) → steps s e t → steps s e u → t ≡ u) → GenerationsHaveWords steps published publishes
  same_words one o s u h k runs longer same =
      let (m, both) = split_at o u h k longer in
      let none : count_by publishes k ≡ 0 = (let c = sum_by-append (λ x. cond (publishes x) 1 0) h k in omega arith) in
      same_along m u k both.1 none ∙ ap published (runs-one steps one o h m s both.0 runs)
