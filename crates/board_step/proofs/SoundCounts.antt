-- Counts that stand: a signal, a write and a read keep them so.
use Rattle.board_step.proofs.Basics.{◌≡◌, ℕ, ◌-◌, ◌^◌, ◌≤◌, zero, suc, false, true≢false, inl, inr, List, [], ◌∷◌, length, All, Some, refl, sym, ap, subst, ◌∙◌, arith, length-set, IsTrue, slice_get, slice_set, signalled, signalled_all, RegistryPart, is_trigger, ◌⊎◌, All-set}

-- so many counts, none past the greatest, and that of a trigger is 0
pub record CountsFine (r : RegistryPart) (many : ℕ) (counts : List ℕ) : Type 0 where
  pub number : length counts ≡ many
  pub greatest : All (λ count. count ≤ 2 ^ 64 - 2) counts
  pub triggers : (counter count : ℕ) → IsTrue (is_trigger r counter) → slice_get counts counter ≡ Some count → count ≡ 0

read_after : (xs : List ℕ) (i j x y : ℕ) → slice_get (slice_set xs i x) j ≡ Some y → ((i ≡ j) × (x ≡ y)) ⊎ (slice_get xs j ≡ Some y)
read_after [] i j x y e = inr e
read_after (z ∷ zs) zero zero x y e = inl (refl, cc)
read_after (z ∷ zs) zero (suc j) x y e = inr e
read_after (z ∷ zs) (suc i) zero x y e = inr e
read_after (z ∷ zs) (suc i) (suc j) x y e = elim (read_after zs i j x y e) [
  | inl both ↦ inl (ap suc both.0, both.1)
  | inr old ↦ inr old
]

-- another count at a place
pub count_set : (r : RegistryPart) (many : ℕ) (counts : List ℕ) (c x : ℕ) → CountsFine r many counts → x ≤ 2 ^ 64 - 2 → (IsTrue (is_trigger r c) → x ≡ 0) → CountsFine r many (slice_set counts c x)
count_set r many counts c x s low none = record {
  number = length-set counts c x ∙ s.number;
  greatest = All-set (λ count. count ≤ 2 ^ 64 - 2) counts c x low s.greatest;
  triggers = λ counter count on at. elim (read_after counts c counter x count at) [
    | inl both ↦ sym both.1 ∙ none (subst (λ n. IsTrue (is_trigger r n)) (sym both.0) on)
    | inr old ↦ s.triggers counter count on old
  ];
}

no_trigger : (r : RegistryPart) (c x : ℕ) → is_trigger r c ≡ false → IsTrue (is_trigger r c) → x ≡ 0
no_trigger r c x off on = absurd (true≢false (sym on ∙ off))

pub counts_signalled : (r : RegistryPart) (many : ℕ) (counts : List ℕ) (c : ℕ) → CountsFine r many counts → is_trigger r c ≡ false → CountsFine r many (signalled counts c)
counts_signalled r many counts c s off = count_set r many counts c _ s (omega arith) (no_trigger r c _ off)

-- none of these counters is a trigger
abbrev pub NoTriggers : RegistryPart → List ℕ → Type 0
NoTriggers r [] = Unit {0}
NoTriggers r (c ∷ cs) = (is_trigger r c ≡ false) × NoTriggers r cs

pub counts_signalled_all : (r : RegistryPart) (many : ℕ) (signals counts : List ℕ) → CountsFine r many counts → NoTriggers r signals → CountsFine r many (signalled_all counts signals)
counts_signalled_all r many [] counts s off = s
counts_signalled_all r many (c ∷ cs) counts s off = counts_signalled_all r many cs (signalled counts c) (counts_signalled r many counts c s off.0) off.1

pub counts_taken : (r : RegistryPart) (many : ℕ) (counts : List ℕ) (c : ℕ) → CountsFine r many counts → CountsFine r many (slice_set counts c 0)
counts_taken r many counts c s = count_set r many counts c 0 s (omega arith) (λ _. refl)

pub counts_written : (r : RegistryPart) (many : ℕ) (counts : List ℕ) (c x : ℕ) → CountsFine r many counts → is_trigger r c ≡ false → x ≤ 2 ^ 64 - 2 → CountsFine r many (slice_set counts c x)
counts_written r many counts c x s off low = count_set r many counts c x s low (no_trigger r c x off)
