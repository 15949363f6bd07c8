-- A slot that was lent: read and left as it was, or written.
use Rattle.std.proofs.Common.{◌≡◌, ℕ, true, false, nat_eq, List, sym, ap, ◌∙◌, subst, inl, inr, is_some}
use Rattle.std.specs.Prelude.{Option, Some}
use Rattle.std.proofs.lemmas.Bool.Decides.{eqb_tells}
use Rattle.turn_book.specs.Hands.{slot_at, are_distinct, brought, written}
use Rattle.turn_book.specs.Histories.{is_in}
use Rattle.turn_book.specs.Lent.{slot_lent}
use Rattle.turn_copies.specs.Copies.{written_at}

-- another number than one that is not in the list
pub apart_else : (p q : ℕ) (ps : List ℕ) → is_in p ps ≡ false → is_in q ps ≡ true → nat_eq p q ≡ false
apart_else p q ps out within = elim (eqb_tells p q) [
  | inl e ↦ (let no_way : true ≡ false = sym within ∙ subst (λ n. is_in n ps ≡ false) e.1 out in cc)
  | inr e ↦ e.0
]

module _ {P : Type 0} where
  pub lent_other : (p q : ℕ) (w : P) (cs : List (ℕ × P)) → are_distinct cs ≡ true → is_some (slot_at p cs) ≡ true → nat_eq p q ≡ false → slot_at q (written p w (brought p cs)) ≡ slot_at q cs
  lent_other p q w cs d h other = slot_lent p q w cs d h ∙ ap (λ b. elim b as (λ _. Option P) [ true ↦ Some w | false ↦ slot_at q cs ]) other

  pub lent_back : (p q : ℕ) (w : P) (cs : List (ℕ × P)) → are_distinct cs ≡ true → slot_at p cs ≡ Some w → slot_at q (written p w (brought p cs)) ≡ slot_at q cs
  lent_back p q w cs d h = slot_lent p q w cs d (ap is_some h) ∙ elim (eqb_tells p q) [
    | inl e ↦ ap (λ b. elim b as (λ _. Option P) [ true ↦ Some w | false ↦ slot_at q cs ]) e.0 ∙ sym h ∙ ap (λ n. slot_at n cs) e.1
    | inr e ↦ ap (λ b. elim b as (λ _. Option P) [ true ↦ Some w | false ↦ slot_at q cs ]) e.0
  ]

  pub lent_written : {C : Type 0} (f : ℕ → C → P → P) (c : C) (p q : ℕ) (w x : P) (cs : List (ℕ × P)) → are_distinct cs ≡ true → slot_at p cs ≡ Some x → w ≡ f p c x → slot_at q (written p w (brought p cs)) ≡ written_at f c (nat_eq p q) q (slot_at q cs)
  lent_written f c p q w x cs d h is = slot_lent p q w cs d (ap is_some h) ∙ elim (eqb_tells p q) [
    | inl e ↦
        ap (λ b. elim b as (λ _. Option P) [ true ↦ Some w | false ↦ slot_at q cs ]) e.0
        ∙ ap (λ (y : P). Some y) is
        ∙ sym (ap (λ b. written_at f c b q (slot_at q cs)) e.0 ∙ ap (written_at f c true q) (sym (ap (λ n. slot_at n cs) e.1) ∙ h) ∙ ap (λ n. Some (f n c x)) (sym e.1))
    | inr e ↦
        ap (λ b. elim b as (λ _. Option P) [ true ↦ Some w | false ↦ slot_at q cs ]) e.0
        ∙ sym (ap (λ b. written_at f c b q (slot_at q cs)) e.0)
  ]
