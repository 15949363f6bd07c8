-- What is held after an entry, and without a part
use Rattle.std.proofs.Common.{◌≡◌, ◌≢◌, ℕ, List, [], ◌∷◌, Bool, true, false, not, ◌&&◌, subst, refl, sym, ap, ◌∙◌, arith}
use Rattle.std.specs.Prelude.{Some, None, slice_get, unwrap_or, is_some, nat_eq}
use Rattle.turn_book.specs.declared.view.Held.{Held}
use Rattle.turn_book.specs.Hands.{held_at, held_after, held_without, slot_at, AreHome}
use Rattle.turn_book.proofs.Lists.{some_is, none_not}

-- a held part after the entry was held before
pub held-after : {P : Type 0} (ps : List P) (p : ℕ) (x : P) (hs : List (Held P)) → held_at p (held_after ps hs) ≡ Some x → (y : P) × (held_at p hs ≡ Some y) × (x ≡ unwrap_or (slice_get ps p) y)
held-after ps p x [] h = cc
held-after {P} ps p x (k ∷ hs) h = elim (nat_eq k.part p) as (λ b. nat_eq k.part p ≡ b → (elim b [ true ↦ Some (unwrap_or (slice_get ps k.part) k.value) | false ↦ held_at p (held_after ps hs) ]) ≡ Some x → (y : P) × ((elim b [ true ↦ Some k.value | false ↦ held_at p hs ]) ≡ Some y) × (x ≡ unwrap_or (slice_get ps p) y)) [
  | true ↦ λ same e. (k.value, refl, some_is _ _ (sym e) ∙ ap (λ n. unwrap_or (slice_get ps n) k.value) (let is : k.part ≡ p = grind arith in is))
  | false ↦ λ _ e. held-after ps p x hs e
] refl h

pub held_after-some : {P : Type 0} (ps : List P) (p : ℕ) (hs : List (Held P)) → is_some (held_at p (held_after ps hs)) ≡ is_some (held_at p hs)
held_after-some ps p [] = refl
held_after-some {P} ps p (k ∷ hs) = elim (nat_eq k.part p) as (λ b. is_some (elim b [ true ↦ Some (unwrap_or (slice_get ps k.part) k.value) | false ↦ held_at p (held_after ps hs) ]) ≡ is_some (elim b [ true ↦ Some k.value | false ↦ held_at p hs ])) [
  | true ↦ refl
  | false ↦ held_after-some ps p hs
]

-- without a part the others are held as before, and it is not

pub held-else : {P : Type 0} (p q : ℕ) → p ≢ q → (hs : List (Held P)) → held_at q (held_without p hs) ≡ held_at q hs
held-else p q n [] = refl
held-else {P} p q n (k ∷ hs) = elim (nat_eq k.part p) as (λ b. nat_eq k.part p ≡ b → held_at q (elim b [ true ↦ held_without p hs | false ↦ k ∷ held_without p hs ]) ≡ elim (nat_eq k.part q) [ true ↦ Some k.value | false ↦ held_at q hs ]) [
  | true ↦ λ t.
      let is : k.part ≡ p = grind arith in
      held-else p q n hs ∙ sym (ap (λ b. elim b [ true ↦ Some k.value | false ↦ held_at q hs ]) (not_here (λ e. n (sym is ∙ e))))
  | false ↦ λ t. ap (λ o. elim (nat_eq k.part q) [ true ↦ Some k.value | false ↦ o ]) (held-else p q n hs)
] refl
  where
    not_here : (k.part ≡ q → ⊥) → nat_eq k.part q ≡ false
    not_here apart = grind arith

pub held-gone : {P : Type 0} (p : ℕ) (hs : List (Held P)) → held_at p (held_without p hs) ≡ None
held-gone p [] = refl
held-gone {P} p (k ∷ hs) = elim (nat_eq k.part p) as (λ b. nat_eq k.part p ≡ b → held_at p (elim b [ true ↦ held_without p hs | false ↦ k ∷ held_without p hs ]) ≡ None) [
  | true ↦ λ t. held-gone p hs
  | false ↦ λ t. ap (λ b. elim b [ true ↦ Some k.value | false ↦ held_at p (held_without p hs) ]) t ∙ held-gone p hs
] refl

-- what is held without a part was held, and is another part
pub held-without : {P : Type 0} (p q : ℕ) (y : P) (hs : List (Held P)) → held_at q (held_without p hs) ≡ Some y → (p ≢ q) × (held_at q hs ≡ Some y)
held-without {P} p q y hs h = elim (nat_eq p q) as (λ b. nat_eq p q ≡ b → (p ≢ q) × (held_at q hs ≡ Some y)) [
  | true ↦ λ t. (let same : p ≡ q = grind arith in absurd (none_not y (sym (subst (λ n. held_at n (held_without p hs) ≡ None) same (held-gone p hs)) ∙ h)))
  | false ↦ λ t. (let other : p ≢ q = λ e. (let no_way : ⊥ = grind arith in no_way) in (other, sym (held-else p q other hs) ∙ h))
] refl

-- what is held once a part was given: each other part
pub given-held : {P : Type 0} (p q : ℕ) (hs : List (Held P)) → is_some (held_at q (held_without p hs)) ≡ (is_some (held_at q hs) && not (nat_eq p q))
given-held p q hs = elim (nat_eq p q) as (λ b. nat_eq p q ≡ b → is_some (held_at q (held_without p hs)) ≡ (is_some (held_at q hs) && not b)) [
  | true ↦ λ t. (let same : p ≡ q = grind arith in subst (λ n. is_some (held_at n (held_without p hs)) ≡ (is_some (held_at n hs) && false)) same (ap is_some (held-gone p hs) ∙ none (is_some (held_at p hs))))
  | false ↦ λ t. (let other : p ≢ q = λ e. (let no_way : ⊥ = grind arith in no_way) in ap is_some (held-else p q other hs) ∙ all (is_some (held_at q hs)))
] refl
  where
    none : (b : Bool) → false ≡ (b && false)
    none true = refl
    none false = refl

    all : (b : Bool) → b ≡ (b && true)
    all true = refl
    all false = refl

-- and what is in hand is still what is held
pub given-home : {P : Type 0} (p : ℕ) (hs : List (Held P)) (cs ds : List (ℕ × P)) → AreHome hs cs → slot_at p ds ≡ None → ((q : ℕ) → nat_eq p q ≡ false → slot_at q ds ≡ slot_at q cs) → AreHome (held_without p hs) ds
given-home p hs cs ds home gone others q = elim (nat_eq p q) as (λ b. nat_eq p q ≡ b → slot_at q ds ≡ held_at q (held_without p hs)) [
  | true ↦ λ t. (let same : p ≡ q = grind arith in subst (λ n. slot_at n ds ≡ held_at n (held_without p hs)) same (gone ∙ sym (held-gone p hs)))
  | false ↦ λ t. (let other : p ≢ q = λ e. (let no_way : ⊥ = grind arith in no_way) in others q t ∙ home q ∙ sym (held-else p q other hs))
] refl
