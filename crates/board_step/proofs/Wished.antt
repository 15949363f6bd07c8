-- The choices that a list in code is given.
use Rattle.board_step.proofs.Basics.{◌≡◌, ◌≤◌, true, false, ◌||◌, [], ◌∷◌, length, refl, sym, ap, ◌∙◌, if◌then◌else◌, arith, contains-union, contains-empty, same_set, nat_cmp-IsAntisymmetric, nat_cmp, nat_cmp_total, Numbers, Event, Sent, is_empty, reached, wish_of, wish_shown, contains, empty}
use Rattle.board_step.proofs.Shown.{empty_is, was_empty, wished}

no_member : (s : Numbers) → ((n : _) → contains s n ≡ false) → s ≡ empty
no_member s none = same_set nat_cmp_total nat_cmp-IsAntisymmetric _ _ (λ n. none n ∙ sym (contains-empty nat_cmp n))

module _ (s : Sent) (nobody_is : reached s ≡ empty) where
  none : (n : _) → (contains s.new n || contains s.stood n) ≡ false
  none n = sym (contains-union nat_cmp_total s.new s.stood n) ∙ ap (λ x. contains x n) nobody_is ∙ contains-empty nat_cmp n

  -- no choice shows where nobody was reached
  pub unwished : wish_of s ≡ []
  unwished =
      (λ i. if is_empty (no_member s.new (λ n. (grind (arith, (none n)))) i) then (if is_empty s.stood then [] else reached s ∷ []) else reached s ∷ [])
      ∙ ap (λ t. if t then (if is_empty s.stood then [] else reached s ∷ []) else reached s ∷ []) empty_is
      ∙ (λ i. if is_empty (no_member s.stood (λ n. (grind (arith, (none n)))) i) then [] else reached s ∷ [])
      ∙ ap (λ t. if t then [] else reached s ∷ []) empty_is

-- some choice shows where somebody was reached
pub somebody : (s : Sent) (n : Numbers) → n ≡ reached s → (n ≡ empty → ⊥) → wish_of s ≡ n ∷ []
somebody s n is never = elim (is_empty (reached s)) as (λ t. is_empty (reached s) ≡ t → wish_of s ≡ n ∷ []) [
  | true ↦ λ none. absurd (never (is ∙ was_empty (reached s) none))
  | false ↦ λ some. wished s some ∙ ap (λ x. x ∷ []) (sym is)
] refl

wish_few : (s : Sent) → length (wish_of s) ≤ 1
wish_few s = grind arith

pub event_few : (x : Event) → length (wish_shown x) ≤ 1
event_few x = grind arith
