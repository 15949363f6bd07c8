-- The vectors of all entries, and the pins that have one of them.
use Rattle.std.proofs.Common.{◌≡◌, ℕ, ◌+◌, ◌<◌, zero, suc, Bool, true, false, ◌&&◌, ◌||◌, nat_eq, nat_lt, List, [], ◌∷◌, replicate, slice_set, refl, sym, ap, subst, ◌∙◌, arith}
use Rattle.std.proofs.lemmas.Bool.Decides.{nat_tests, Decides-eqb}
use Rattle.std.proofs.lemmas.List.{get_or-replicate}
use Rattle.std.specs.Ordering.{nat_cmp}
use Rattle.std.specs.FinSet as set
use Rattle.irq_bits.specs.Members.{Numbers}
use Rattle.irq_bits.specs.SetLemmas.{contains-insert_number}
use Rattle.ioapic_82093aa.specs.Entries.{entry_in, entry_at_power_on, vector_is, AreIn}
use Rattle.ioapic_82093aa.specs.declared.entry.Entry.{Entry}

-- what holds of what is written and of what stood there holds after the write
by_write : (P : Entry → Type 0) (xs : List Entry) (i j : ℕ) (e : Entry) → P e → P (entry_in xs j) → P (entry_in (slice_set xs i e) j)
by_write P [] i j e new old = old
by_write P (x ∷ xs) zero zero e new old = new
by_write P (x ∷ xs) zero (suc j) e new old = old
by_write P (x ∷ xs) (suc i) zero e new old = old
by_write P (x ∷ xs) (suc i) (suc j) e new old = by_write P xs i j e new old

-- a vector that is put in is there, and so is each that was there
put_in : (s : Numbers) (k : ℕ) → set.contains (set.insert s k) k ≡ true
put_in s k = let at = contains-insert_number s k k in grind (arith, nat_tests)

stays_in : (s : Numbers) (k n : ℕ) → set.contains s n ≡ true → set.contains (set.insert s k) n ≡ true
stays_in s k n there = let at = contains-insert_number s k n in grind (arith, nat_tests)

pub are_in_written : (xs : List Entry) (s : Numbers) (i : ℕ) (e : Entry) → AreIn xs s → AreIn (slice_set xs i e) (set.insert s e.vector)
are_in_written xs s i e there pin below =
    by_write (λ x. set.contains (set.insert s e.vector) x.vector ≡ true) xs i pin e (put_in s e.vector) (stays_in s e.vector _ (there pin below))

abbrev HasZero : Entry → Type 0
HasZero e = set.contains (set.insert {R = nat_cmp} set.empty 0) e.vector ≡ true

pub are_in_first : (e : Entry) → e ≡ entry_at_power_on → AreIn (replicate 24 e) (set.insert set.empty 0)
are_in_first e first pin below =
    subst HasZero (sym (get_or-replicate 24 pin e entry_at_power_on below)) (subst HasZero (sym first) (put_in set.empty 0))

-- a vector that is not there is that of no pin
pub none_has : (xs : List Entry) (s : Numbers) (vector pin : ℕ) → AreIn xs s → set.contains s vector ≡ false → pin < 24 → false ≡ vector_is xs vector pin
none_has xs s vector pin there out below =
    let is_in = there pin below in
    elim (nat_eq (entry_in xs pin).vector vector) as (λ t. nat_eq (entry_in xs pin).vector vector ≡ t → false ≡ t) [
      | true ↦ λ same. sym out ∙ ap (set.contains s) (sym ((Decides-eqb (entry_in xs pin).vector vector).0 same)) ∙ is_in
      | false ↦ λ _. refl
    ] refl

-- ---- the pins so far

module _ (has : ℕ → Bool) (pins : Numbers) (p n : ℕ) (so_far : set.contains pins n ≡ (nat_lt n p && has n)) where
  pub one_more : has p ≡ true → set.contains (set.insert pins p) n ≡ (nat_lt n (p + 1) && has n)
  one_more there = contains-insert_number pins p n ∙ ap (λ b. nat_eq n p || b) so_far ∙ here_or_before (Decides-eqb n p).0
    where
      here_or_before : (nat_eq n p ≡ true → n ≡ p) → (nat_eq n p || (nat_lt n p && has n)) ≡ (nat_lt n (p + 1) && has n)
      here_or_before same = elim (nat_eq n p) as (λ t. nat_eq n p ≡ t → (t || (nat_lt n p && has n)) ≡ (nat_lt n (p + 1) && has n)) [
        | true ↦ λ e. let at = ap has (same e) ∙ there in let is = same e in grind (arith, nat_tests)
        | false ↦ λ e. grind (arith, nat_tests)
      ] refl

  pub no_more : has p ≡ false → set.contains pins n ≡ (nat_lt n (p + 1) && has n)
  no_more not_there = so_far ∙ elim (nat_eq n p) as (λ t. nat_eq n p ≡ t → (nat_lt n p && has n) ≡ (nat_lt n (p + 1) && has n)) [
    | true ↦ λ e. let at = ap has ((Decides-eqb n p).0 e) ∙ not_there in grind (arith, nat_tests)
    | false ↦ λ e. grind (arith, nat_tests)
  ] refl
