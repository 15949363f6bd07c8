-- Holds that stand: one more, or fewer.
use Rattle.board_step.proofs.Basics.{◌≡◌, ℕ, ◌<◌, Bool, true, false, not, ◌&&◌, ◌||◌, inl, inr, refl, sym, ap, subst, ◌∙◌, IsTrue, first_so, second_so, tied_itself, contains-insert, contains-remove, eq_by_cmp, is_eq, Pin, Source, Resample, Hold, Holds, hold, hold_cmp, RegistryPart, ◌⊎◌, contains-retain, hold_cmp_total, hold_cmp-IsAntisymmetric, tied_same, HasResampler, ResamplersHold, HoldsStand, contains, retain, insert, remove}

inserted : (holds : Holds) (k q : Hold) → IsTrue (contains (insert holds k) q) → (q ≡ k) ⊎ IsTrue (contains holds q)
inserted holds k q e =
    elim (eq_by_cmp hold_cmp q k) as (λ t. eq_by_cmp hold_cmp q k ≡ t → (t || contains holds q) ≡ true → (q ≡ k) ⊎ IsTrue (contains holds q)) [
      | true ↦ λ same _. inl (tied_same q k same)
      | false ↦ λ _ old. inr old
    ] refl (sym (contains-insert hold_cmp_total holds k q) ∙ e)

-- a source more, which is of a resampler where it is Resample
pub more_for : (r : RegistryPart) (holds : Holds) (chip : ℕ → Pin) (pin : ℕ) (source : Source) → ResamplersHold r holds chip → (source ≡ Resample → HasResampler r (chip pin)) → ResamplersHold r (insert holds (hold pin source)) chip
more_for r holds chip pin source h resamples p held = elim (inserted holds (hold pin source) (hold p Resample) held) [
  | inl same ↦ subst (λ n. HasResampler r (chip n)) (sym (ap (λ (x : Hold). x.pin) same)) (resamples (sym (ap (λ (x : Hold). x.source) same)))
  | inr old ↦ h p old
]

-- a pin that there is, held by a source, is held as well
pub hold_more : (r : RegistryPart) (holds : Holds) (count : ℕ) (chip : ℕ → Pin) (pin : ℕ) (source : Source) → HoldsStand r holds count chip → pin < count → (source ≡ Resample → HasResampler r (chip pin)) → HoldsStand r (insert holds (hold pin source)) count chip
hold_more r holds count chip pin source s below resamples = record {
  there = λ h held. elim (inserted holds (hold pin source) h held) [
    | inl same ↦ subst (λ (x : Hold). x.pin < count) (sym same) below
    | inr old ↦ s.there h old
  ];
  resample = more_for r holds chip pin source s.resample resamples;
}

pub was_held : (holds : Holds) (k h : Hold) → IsTrue (contains (remove holds k) h) → IsTrue (contains holds h)
was_held holds k h held = second_so _ _ (sym (contains-remove hold_cmp_total holds k h) ∙ held)

-- what was removed is not there
pub not_removed : (holds : Holds) (k : Hold) → IsTrue (contains (remove holds k) k) → ⊥
not_removed holds k held = absurd (differs (eq_by_cmp hold_cmp k k) (contains holds k) (ap is_eq (tied_itself hold_cmp_total k)) (sym (contains-remove hold_cmp_total holds k k) ∙ held))
  where
    differs : (a b : Bool) → a ≡ true → (not a && b) ≡ true → ⊥
    differs true b e f = cc
    differs false b e f = cc

-- one hold less
pub less_for : (r : RegistryPart) (holds : Holds) (chip : ℕ → Pin) (k : Hold) → ResamplersHold r holds chip → ResamplersHold r (remove holds k) chip
less_for r holds chip k h p held = h p (was_held holds k (hold p Resample) held)

pub hold_less : (r : RegistryPart) (holds : Holds) (count : ℕ) (chip : ℕ → Pin) (k : Hold) → HoldsStand r holds count chip → HoldsStand r (remove holds k) count chip
hold_less r holds count chip k s = record { there = λ h held. s.there h (was_held holds k h held); resample = less_for r holds chip k s.resample }

-- what is retained was there, and passes the test
pub retained : (holds : Holds) (p : Hold → Bool) (h : Hold) → IsTrue (contains (retain holds p) h) → IsTrue (contains holds h) × IsTrue (p h)
retained holds p h held =
    let both : (contains holds h && p h) ≡ true = sym (contains-retain holds p h (λ x tie. ap p (sym (hold_cmp-IsAntisymmetric h x tie)))) ∙ held in
    (first_so _ _ both, second_so _ _ both)
