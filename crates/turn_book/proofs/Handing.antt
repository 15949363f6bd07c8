-- What a pen says of its slots stays when parts are taken, given and committed
use Rattle.std.proofs.Common.{◌≡◌, ◌≢◌, ℕ, List, [], ◌∷◌, Bool, true, false, refl, sym, ap, ◌∙◌, subst, arith}
use Rattle.std.specs.Prelude.{Some, None, nat_eq, nat_lt, is_some, if◌then◌else◌}
use Rattle.atomic_table.specs.Table.{rest}
use Rattle.turn_book.specs.declared.view.Held.{Held}
use Rattle.turn_book.specs.Hands.{held_at, held_without, slot_at, are_distinct, brought, ArePaired, AreBelow}
use Rattle.turn_book.specs.Lent.{slot_here, rest-brought}
use Rattle.turn_book.specs.declared.view.View.{View}
use Rattle.turn_book.specs.Histories.{is_in}
use Rattle.turn_book.specs.Views.{given_view, KnowsOnly}
use Rattle.turn_book.proofs.Lists.{not_both, has, none_not}
use Rattle.turn_book.proofs.Holding.{held-else, held-gone}

module _ {P : Type 0} where
  -- a pen that holds no part has no slot in hand
  pub no_slots : (hs : List (Held P)) (cs : List (ℕ × P)) → hs ≡ [] → ArePaired hs cs → cs ≡ []
  no_slots hs [] bare pair = refl
  no_slots hs (c ∷ cs) bare pair = absurd (not_both (is_some (slot_at c.0 (c ∷ cs))) (ap is_some (slot_here c.0 c.1 cs)) (pair c.0 ∙ ap (λ l. is_some (held_at c.0 l)) bare))

  -- a list in which no part is held is empty
  pub none_held : (hs : List (Held P)) → ((q : ℕ) → is_some (held_at q hs) ≡ false) → hs ≡ []
  none_held [] f = refl
  none_held (h ∷ hs) f = absurd (not_both (is_some (held_at h.part (h ∷ hs))) (let t : nat_eq h.part h.part ≡ true = grind arith in ap (λ b. is_some (elim b [ true ↦ Some h.value | false ↦ held_at h.part hs ])) t) (f h.part))

  -- where nothing but a part is held, nothing is left without it
  pub bare_without : (hs : List (Held P)) (p : ℕ) → ((q : ℕ) → nat_eq p q ≡ false → is_some (held_at q hs) ≡ false) → held_without p hs ≡ []
  bare_without hs p f = none_held (held_without p hs) (λ q. elim (nat_eq p q) as (λ b. nat_eq p q ≡ b → is_some (held_at q (held_without p hs)) ≡ false) [
    | true ↦ λ t. (let same : p ≡ q = grind arith in subst (λ r. is_some (held_at r (held_without p hs)) ≡ false) same (ap is_some (held-gone p hs)))
    | false ↦ λ t. (let other : p ≢ q = λ e. (let no_way : ⊥ = grind arith in no_way) in ap is_some (held-else p q other hs) ∙ f q t)
  ] refl)

  -- a list without a part that it does not have
  without_none : (p : ℕ) (hs : List (Held P)) → is_some (held_at p hs) ≡ false → held_without p hs ≡ hs
  without_none p [] h = refl
  without_none p (k ∷ hs) h = by_test (without_none p hs) (nat_eq k.part p) h
    where
      by_test : (is_some (held_at p hs) ≡ false → held_without p hs ≡ hs) → (b : Bool) → is_some (elim b [ true ↦ Some k.value | false ↦ held_at p hs ]) ≡ false
          → elim b [ true ↦ held_without p hs | false ↦ k ∷ held_without p hs ] ≡ k ∷ hs
      by_test again true e = absurd (let q : true ≡ false = e in cc)
      by_test again false e = ap (λ l. k ∷ l) (again e)

  -- a part that was taken and given: what is held is what was held
  pub given_back : (p : ℕ) (hs ws : List (Held P)) → is_some (held_at p hs) ≡ false → is_some (held_at p ws) ≡ true
      → ((x : P) → held_at p ws ≡ Some x → ws ≡ record { part = p; value = x } ∷ hs) → held_without p ws ≡ hs
  given_back p hs ws free held took =
      let (x, is) = has (held_at p ws) held in
      let t : nat_eq p p ≡ true = grind arith in
      let here : Held P = record { part = p; value = x } in
      ap (held_without p) (took x is) ∙ ap (λ b. elim b [ true ↦ held_without p hs | false ↦ here ∷ held_without p hs ]) t ∙ without_none p hs free

  -- a part that is held is in hand
  pub in_hand : (hs : List (Held P)) (cs : List (ℕ × P)) (p : ℕ) → ArePaired hs cs → is_some (held_at p hs) ≡ true → (x : P) × (slot_at p cs ≡ Some x)
  in_hand hs cs p pair h = has (slot_at p cs) (pair p ∙ h)

  pub given-paired : (hs : List (Held P)) (cs : List (ℕ × P)) (p : ℕ) (x : P) → are_distinct cs ≡ true → ArePaired hs cs → slot_at p cs ≡ Some x → ArePaired (held_without p hs) (rest (brought p cs))
  given-paired hs cs p x d pair is q =
      let r = rest-brought p cs x d is in
      elim (nat_eq p q) as (λ b. nat_eq p q ≡ b → is_some (slot_at q (rest (brought p cs))) ≡ is_some (held_at q (held_without p hs))) [
        | true ↦ λ t.
            let same : p ≡ q = grind arith in
            subst (λ n. is_some (slot_at n (rest (brought p cs))) ≡ is_some (held_at n (held_without p hs))) same (r.0 ∙ sym (ap is_some (held-gone p hs)))
        | false ↦ λ t.
            let other : p ≢ q = λ e. (let no_way : ⊥ = grind arith in no_way) in
            ap is_some (r.2 q t) ∙ pair q ∙ sym (ap is_some (held-else p q other hs))
      ] refl

  pub given-below : (n : ℕ) (hs : List (Held P)) (p : ℕ) → AreBelow n hs → AreBelow n (held_without p hs)
  given-below n hs p low q h = elim (nat_eq p q) as (λ b. nat_eq p q ≡ b → nat_lt q n ≡ true) [
    | true ↦ λ t.
        let same : p ≡ q = grind arith in
        absurd (not_both (is_some (held_at q (held_without p hs))) h (subst (λ r. is_some (held_at r (held_without p hs)) ≡ false) same (ap is_some (held-gone p hs))))
    | false ↦ λ t.
        let other : p ≢ q = λ e. (let no_way : ⊥ = grind arith in no_way) in
        low q (sym (ap is_some (held-else p q other hs)) ∙ h)
  ] refl

-- what is known of the generation, after a part was given
pub given_knows : {S E P : Type 0} (p : ℕ) (v : View S E P) (g : ℕ) → KnowsOnly g v → KnowsOnly g (given_view p v)
given_knows p v g only h = elim (nat_eq p 0) as (λ b. (if b then None else v.knows) ≡ Some h → h ≡ g) [ true ↦ λ e. absurd (none_not h e) | false ↦ λ e. only h e ]

-- a list has its first number
pub is_in_first : (p : ℕ) (ps : List ℕ) → is_in p (p ∷ ps) ≡ true
is_in_first p ps = let t : nat_eq p p ≡ true = grind arith in ap (λ b. elim b [ true ↦ true | false ↦ is_in p ps ]) t
