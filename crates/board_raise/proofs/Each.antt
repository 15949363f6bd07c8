-- What holds of each processor of a list, and the numbers of those that pass a test which the number decides.
use Rattle.std.proofs.Common.{◌≡◌, ℕ, Bool, true, false, cond, ◌&&◌, ◌||◌, nat_eq, filter, List, [], ◌∷◌, refl, sym, ap, ◌∙◌, arith, true≢false}
use Rattle.std.specs.FinSet as set
use Rattle.std.specs.FinSet.{contains-empty}
use Rattle.std.specs.Ordering.{nat_cmp}
use Rattle.irq_bits.specs.Members.{Numbers}
use Rattle.irq_bits.specs.SetLemmas.{contains-insert_number, not_in_empty}
use Rattle.irq_base.specs.declared.message.Mode.{Mode}
use Rattle.irq_base.specs.declared.message.Mode.TheVariants.{Fixed, Lowest, Smi, Nmi, Init, Startup, ExtInt, Reserved}
use Rattle.board_raise.specs.Named.{Processor, first_or, chosen_of, numbers_of}

pub both_hold : (a b : Bool) → (a && b) ≡ true → (a ≡ true) × (b ≡ true)
both_hold true b h = (refl, h)
both_hold false b h = absurd (true≢false (sym h))

-- ---- what holds of each processor of a list

unfoldable pub Each : (Processor → Type 0) → List Processor → Type 0
Each P [] = Unit {0}
Each P (p ∷ ps) = P p × Each P ps

module _ (P : Processor → Type 0) where
  -- it holds of those that pass a test, which holds of them as well
  pub each_passing : (t : Processor → Bool) (ps : List Processor) → Each P ps → Each (λ p. P p × (t p ≡ true)) (filter t ps)
  unfolding Each
  each_passing t [] h = tt
  each_passing t (p ∷ ps) h = elim (t p) as (λ b. t p ≡ b → Each (λ p. P p × (t p ≡ true)) (cond b (p ∷ filter t ps) (filter t ps))) [
    | true ↦ λ passes. ((h.0, passes), each_passing t ps h.1)
    | false ↦ λ _. each_passing t ps h.1
  ] refl

  pub each_filtered : (t : Processor → Bool) (ps : List Processor) → Each P ps → Each P (filter t ps)
  unfolding Each
  each_filtered t [] h = tt
  each_filtered t (p ∷ ps) h = elim (t p) as (λ b. Each P (cond b (p ∷ filter t ps) (filter t ps))) [ true ↦ (h.0, each_filtered t ps h.1) | false ↦ each_filtered t ps h.1 ]

  each_first : (ps qs : List Processor) → Each P ps → Each P qs → Each P (first_or ps qs)
  unfolding Each
  each_first [] [] g h = tt
  each_first [] (q ∷ qs) g h = (h.0, tt)
  each_first (p ∷ ps) qs g h = (g.0, tt)

  pub each_chosen : (mode : Mode) (wish : Numbers) (named : List Processor) → Each P named → Each P (chosen_of mode wish named)
  each_chosen Lowest wish named h = each_first _ _ (each_filtered _ _ (each_filtered _ named h)) (each_filtered _ named h)
  each_chosen Fixed wish named h = h
  each_chosen Smi wish named h = h
  each_chosen Nmi wish named h = h
  each_chosen Init wish named h = h
  each_chosen Startup wish named h = h
  each_chosen ExtInt wish named h = h
  each_chosen Reserved wish named h = h

  module _ (Q : Processor → Type 0) (f : (p : Processor) → P p → Q p) where
    pub each_weaker : (ps : List Processor) → Each P ps → Each Q ps
    unfolding Each
    each_weaker [] h = tt
    each_weaker (p ∷ ps) h = (f p h.0, each_weaker ps h.1)

-- ---- the numbers of those that pass

module _ (t : Processor → Bool) (v : ℕ → Bool) where
  -- where the number decides the test
  pub told : (ps : List Processor) → Each (λ p. v p.number ≡ t p) ps → (k : ℕ) → set.contains (numbers_of (filter t ps)) k ≡ (set.contains (numbers_of ps) k && v k)
  unfolding Each
  told [] h k = contains-empty nat_cmp k ∙ ap (λ b. b && v k) (sym (contains-empty nat_cmp k))
  told (p ∷ ps) h k =
      elim (t p) as (λ b. t p ≡ b → set.contains (numbers_of (cond b (p ∷ filter t ps) (filter t ps))) k ≡ (set.contains (set.insert (numbers_of ps) p.number) k && v k)) [
        | true ↦ λ passes.
            contains-insert_number (numbers_of (filter t ps)) p.number k
            ∙ ap (λ b. nat_eq k p.number || b) (told ps h.1 k)
            ∙ one_passes (nat_eq k p.number) _ _ (λ same. at same ∙ passes)
            ∙ ap (λ b. b && v k) (sym (contains-insert_number (numbers_of ps) p.number k))
        | false ↦ λ fails.
            told ps h.1 k
            ∙ one_fails (nat_eq k p.number) _ _ (λ same. at same ∙ fails)
            ∙ ap (λ b. b && v k) (sym (contains-insert_number (numbers_of ps) p.number k))
      ] refl
    where
      at : nat_eq k p.number ≡ true → v k ≡ t p
      at same = let e : k ≡ p.number = grind (same, arith) in ap v e ∙ h.0

      one_passes : (e c b : Bool) → (e ≡ true → b ≡ true) → (e || (c && b)) ≡ ((e || c) && b)
      one_passes true c b f = sym (f refl)
      one_passes false c b f = refl

      one_fails : (e c b : Bool) → (e ≡ true → b ≡ false) → (c && b) ≡ ((e || c) && b)
      one_fails true c b f = ap (λ r. c && r) (f refl) ∙ never c ∙ sym (f refl)
        where
          never : (c : Bool) → (c && false) ≡ false
          never true = refl
          never false = refl
      one_fails false c b f = refl

-- a number among them is one of which v holds
pub told_of : (v : ℕ → Bool) (ps : List Processor) → Each (λ p. v p.number ≡ true) ps → (k : ℕ) → set.contains (numbers_of ps) k ≡ true → v k ≡ true
unfolding Each
told_of v [] h k c = absurd (true≢false (sym c ∙ contains-empty nat_cmp k))
told_of v (p ∷ ps) h k c = from (nat_eq k p.number) refl (sym (contains-insert_number (numbers_of ps) p.number k) ∙ c) (told_of v ps h.1 k)
  where
    from : (e : Bool) → nat_eq k p.number ≡ e → (e || set.contains (numbers_of ps) k) ≡ true → (set.contains (numbers_of ps) k ≡ true → v k ≡ true) → v k ≡ true
    from true same _ _ = let e : k ≡ p.number = grind (same, arith) in ap v e ∙ h.0
    from false _ later f = f later

-- where no number is told, nobody is there
pub nobody_told : (ps : List Processor) → numbers_of ps ≡ set.empty → ps ≡ []
nobody_told [] h = refl
nobody_told (p ∷ ps) h =
    let itself : nat_eq p.number p.number ≡ true = grind arith in
    absurd (not_in_empty (numbers_of (p ∷ ps)) p.number h (contains-insert_number (numbers_of ps) p.number p.number ∙ ap (λ t. t || set.contains (numbers_of ps) p.number) itself))
