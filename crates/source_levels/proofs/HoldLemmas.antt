-- The order of holds, and what it is for a pin to be held.
use Rattle.std.proofs.Common.{◌≡◌, ℕ, zero, suc, Bool, true, false, ◌&&◌, ◌||◌, nat_eq, List, [], ◌∷◌, true≢false, refl, sym, ap, ◌∙◌, arith}
use Rattle.std.proofs.lemmas.Cmp.{then_total, on_total}
use Rattle.std.specs.Cmp.{IsTotalOrder, nat_cmp_total, unsigned_tied, unsigned_Decides, tied_then, first_so, second_so}
use Rattle.std.specs.FinSet as set
use Rattle.std.specs.FinSet.{IsAntisymmetric, contains-items}
use Rattle.std.specs.List.{list_any}
use Rattle.std.specs.Ordering.{is_eq, eq_by_cmp, nat_cmp}
use Rattle.irq_base.specs.declared.message.Source.{Source}
use Rattle.source_levels.specs.Holds.{Hold, Holds, hold, hold_cmp, number_of, source_of, source_given_back, is_of, is_high}

pub number_given_back : (n : ℕ) → number_of (source_of n) ≡ n
unfolding number_of
number_given_back zero = refl
number_given_back (suc zero) = refl
number_given_back (suc (suc zero)) = refl
number_given_back (suc (suc (suc n))) = omega arith

pub same_source : (s t : Source) → number_of s ≡ number_of t → s ≡ t
same_source s t e = sym (source_given_back s) ∙ ap source_of e ∙ source_given_back t

pub same_hold : (h g : Hold) → h.pin ≡ g.pin → number_of h.source ≡ number_of g.source → h ≡ g
same_hold h g pins numbers = λ i. hold (pins i) (same_source h.source g.source numbers i)

pub hold_cmp_total : IsTotalOrder hold_cmp
hold_cmp_total = then_total (on_total (λ h. h.pin) nat_cmp_total) (on_total (λ h. number_of h.source) nat_cmp_total)

-- holds that the order does not tell apart have one pin and one number
pub hold_tied : (h g : Hold) → eq_by_cmp hold_cmp h g ≡ (nat_eq h.pin g.pin && nat_eq (number_of h.source) (number_of g.source))
hold_tied h g = sym (tied_then (nat_cmp h.pin g.pin) (nat_cmp (number_of h.source) (number_of g.source))) ∙ (λ i. unsigned_tied h.pin g.pin i && unsigned_tied (number_of h.source) (number_of g.source) i)

pub tied_same : (h g : Hold) → eq_by_cmp hold_cmp h g ≡ true → h ≡ g
tied_same h g e =
    let both : (nat_eq h.pin g.pin && nat_eq (number_of h.source) (number_of g.source)) ≡ true = sym (hold_tied h g) ∙ e in
    same_hold h g ((unsigned_Decides h.pin g.pin).0 (first_so _ _ both)) ((unsigned_Decides (number_of h.source) (number_of g.source)).0 (second_so _ _ both))

pub hold_cmp-IsAntisymmetric : IsAntisymmetric hold_cmp
hold_cmp-IsAntisymmetric h g e = tied_same h g (ap is_eq e)

-- ---- a pin is high where some source holds it

one_of_pin : (h : Hold) (hs : List Hold) → list_any (eq_by_cmp hold_cmp h) hs ≡ true → list_any (is_of h.pin) hs ≡ true
one_of_pin h [] one = one
one_of_pin h (g ∷ gs) one =
    elim (eq_by_cmp hold_cmp h g) as (λ b. eq_by_cmp hold_cmp h g ≡ b → (b || list_any (eq_by_cmp hold_cmp h) gs) ≡ true → (is_of h.pin g || list_any (is_of h.pin) gs) ≡ true) [
      | true ↦ λ e _. let same : g.pin ≡ h.pin = ap (λ (x : Hold). x.pin) (sym (tied_same h g e)) in ap (λ b. b || list_any (is_of h.pin) gs) ((unsigned_Decides g.pin h.pin).1 same)
      | false ↦ λ _ rest. let later : list_any (is_of h.pin) gs ≡ true = one_of_pin h gs rest in grind arith
    ] refl one

holder_among : (pin : ℕ) (hs : List Hold) → list_any (is_of pin) hs ≡ true → (source : Source) × (list_any (eq_by_cmp hold_cmp (hold pin source)) hs ≡ true)
holder_among pin [] one = absurd (true≢false (sym one))
holder_among pin (g ∷ gs) one =
    elim (nat_eq g.pin pin) as (λ b. nat_eq g.pin pin ≡ b → (b || list_any (is_of pin) gs) ≡ true → (source : Source) × (list_any (eq_by_cmp hold_cmp (hold pin source)) (g ∷ gs) ≡ true)) [
      | true ↦ λ e _.
          let pins : pin ≡ g.pin = sym ((unsigned_Decides g.pin pin).0 e) in
          let tie : eq_by_cmp hold_cmp (hold pin g.source) g ≡ true = hold_tied (hold pin g.source) g ∙ (λ i. (unsigned_Decides pin g.pin).1 pins i && (unsigned_Decides (number_of g.source) (number_of g.source)).1 refl i) in
          (g.source, ap (λ b. b || list_any (eq_by_cmp hold_cmp (hold pin g.source)) gs) tie)
      | false ↦ λ _ rest.
          let later = holder_among pin gs rest in
          (later.0, or_later (eq_by_cmp hold_cmp (hold pin later.0) g) _ later.1)
    ] refl one
  where
    or_later : (a b : Bool) → b ≡ true → (a || b) ≡ true
    or_later true b e = refl
    or_later false b e = e

pub high_where_held : (s : Holds) (pin : ℕ) (source : Source) → set.contains s (hold pin source) ≡ true → is_high s pin ≡ true
unfolding is_high
high_where_held s pin source held = one_of_pin (hold pin source) (set.items s) (sym (contains-items s (hold pin source)) ∙ held)

pub held_where_high : (s : Holds) (pin : ℕ) → is_high s pin ≡ true → (source : Source) × (set.contains s (hold pin source) ≡ true)
unfolding is_high
held_where_high s pin high = let one = holder_among pin (set.items s) high in (one.0, contains-items s (hold pin one.0) ∙ one.1)
