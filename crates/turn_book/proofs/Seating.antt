-- One view is changed: what the rule says of the seats stays
use Rattle.std.proofs.Common.{◌≡◌, ◌≢◌, ℕ, inl, inr, ⊎_elim, arith, List, true, false, refl, sym, ap, ◌∙◌, subst}
use Rattle.std.specs.Prelude.{slice_set, nat_eq, is_some}
use mathlib.Core.Option.{some, some-injective}
use lib.ListN.{get_elem?}
use Rattle.atomic_table.specs.Table.{State}
use Rattle.atomic_table.proofs.Lists.{at_set, set_else}
use Rattle.turn_book.specs.declared.view.View.{View}
use Rattle.turn_book.specs.Histories.{is_in}
use Rattle.turn_book.specs.Hands.{held_at}
use Rattle.turn_book.specs.Rule.{Workings, Behind, Knows, IsKept, IsOut, HasSeat, Seats}
use Rattle.turn_book.specs.Views.{ended_at}
use Rattle.turn_book.proofs.Lists.{get_here}

module _ {S E P : Type 0} where
  -- the same seat: as much spent, with the same caller, and as much the desk's
  abbrev pub SameSeat : View S E P → View S E P → Type 0
  SameSeat v w = (w.spent ≡ v.spent) × (w.caller ≡ v.caller) × (w.is_desk ≡ v.is_desk)

  -- each view of the new list is the changed one, or was there before
  pub each_set : (views : List (View S E P)) (id : ℕ) (w : View S E P) (K : ℕ → View S E P → Type 0)
      → (w.spent ≡ false → K id w) → ((j : ℕ) (u : View S E P) → j ≢ id → get_elem? views j ≡ some u → u.spent ≡ false → K j u)
      → (j : ℕ) (u : View S E P) → get_elem? (slice_set views id w) j ≡ some u → u.spent ≡ false → K j u
  each_set views id w K own others j u e live = ⊎_elim
      (λ (t : (j ≡ id) × (w ≡ u)). subst (λ i. K i u) (sym t.0) (subst (λ x. x.spent ≡ false → K id x) t.1 own live))
      (λ (t : (j ≢ id) × (get_elem? views j ≡ some u)). others j u t.0 t.1 live)
      (at_set views id j w u e)

  -- a part stays out where its holder's new view still holds it
  pub out_set : (views : List (View S E P)) (id : ℕ) (v w : View S E P) → get_elem? views id ≡ some v → w.spent ≡ v.spent → (i p : ℕ)
      → (is_some (held_at p v.held) ≡ true → is_some (held_at p w.held) ≡ true) → IsOut views i p → IsOut (slice_set views id w) i p
  out_set views id v w at spent i p more (u, there, live, has) = elim (nat_eq i id) as (λ b. nat_eq i id ≡ b → IsOut (slice_set views id w) i p) [
    | true ↦ λ t.
        let same : i ≡ id = grind arith in
        let is : v ≡ u = some-injective v u (sym at ∙ ap (λ n. get_elem? views n) (sym same) ∙ there) in
        (w, subst (λ n. get_elem? (slice_set views id w) n ≡ some w) (sym same) (get_here views id v w at), spent ∙ ap (λ x. x.spent) is ∙ live, more (ap (λ x. is_some (held_at p x.held)) is ∙ has))
    | false ↦ λ t.
        let other : i ≢ id = λ e. (let no_way : ⊥ = grind arith in no_way) in
        (u, set_else views id i w other ∙ there, live, has)
  ] refl

  -- the seat as it was before one view was changed
  abbrev pub Was : List (View S E P) → ℕ → View S E P → Type 0
  Was views i x = (u : View S E P) × (get_elem? views i ≡ some u) × SameSeat u x

  pub was : (views : List (View S E P)) (id : ℕ) (v w : View S E P) → get_elem? views id ≡ some v → SameSeat v w → (i : ℕ) (x : View S E P) → get_elem? (slice_set views id w) i ≡ some x → Was views i x
  was views id v w at (spent, called, desk) i x e = ⊎_elim
      (λ (t : (i ≡ id) × (w ≡ x)). (v, ap (λ n. get_elem? views n) t.0 ∙ at, (ap (λ y. y.spent) (sym t.1) ∙ spent, ap (λ y. y.caller) (sym t.1) ∙ called, ap (λ y. y.is_desk) (sym t.1) ∙ desk)))
      (λ (t : (i ≢ id) × (get_elem? views i ≡ some x)). (x, t.1, (refl, refl, refl)))
      (at_set views id i w x e)

  -- a caller's seat stays a seat
  pub seat_set : (views : List (View S E P)) (id : ℕ) (v w : View S E P) → get_elem? views id ≡ some v → SameSeat v w → (c : ℕ) → HasSeat views c → HasSeat (slice_set views id w) c
  seat_set views id v w at (spent, called, desk) c (i, u, there, live, has) = elim (nat_eq i id) as (λ b. nat_eq i id ≡ b → HasSeat (slice_set views id w) c) [
    | true ↦ λ t.
        let same : i ≡ id = grind arith in
        let is : v ≡ u = some-injective v u (sym at ∙ ap (λ n. get_elem? views n) (sym same) ∙ there) in
        (id, w, get_here views id v w at, spent ∙ ap (λ x. x.spent) is ∙ live, called ∙ ap (λ x. x.caller) is ∙ has)
    | false ↦ λ t. (let other : i ≢ id = λ e. (let no_way : ⊥ = grind arith in no_way) in (i, u, set_else views id i w other ∙ there, live, has))
  ] refl

  pub seats_set : (r r' : Behind S E) (views : List (View S E P)) (id : ℕ) (v w : View S E P) → Seats r views → get_elem? views id ≡ some v → SameSeat v w → r'.made ≡ r.made → r'.ended ≡ r.ended → Seats r' (slice_set views id w)
  seats_set r r' views id v w k at same made ended = record {
    one_desk = λ i j x y e f lx ly dx dy.
        let a : Was views i x = was views id v w at same i x e in
        let b : Was views j y = was views id v w at same j y f in
        k.one_desk i j a.0 b.0 a.1 b.1 (sym a.2.0 ∙ lx) (sym b.2.0 ∙ ly) (sym a.2.2 ∙ dx) (sym b.2.2 ∙ dy);
    one_seat = λ i j x y c e f lx ly cx cy.
        let a : Was views i x = was views id v w at same i x e in
        let b : Was views j y = was views id v w at same j y f in
        k.one_seat i j a.0 b.0 c a.1 b.1 (sym a.2.0 ∙ lx) (sym b.2.0 ∙ ly) (sym a.2.1 ∙ cx) (sym b.2.1 ∙ cy);
    placed = λ c is. ⊎_elim (λ h. inl (seat_set views id v w at same c h)) (λ h. inr (ap (λ l. is_some (ended_at c l)) ended ∙ h)) (k.placed c (sym (ap (is_in c) made) ∙ is));
  }

  -- one view is changed, and nothing else
  pub view_keeps : (m : Workings S E P) (opening : S) (size : ℕ) (s : State P (View S E P)) (k : IsKept m opening size s) (id : ℕ) (v w : View S E P)
      → get_elem? s.views id ≡ some v → SameSeat v w → ((p : ℕ) → is_some (held_at p v.held) ≡ true → is_some (held_at p w.held) ≡ true)
      → (w.spent ≡ false → Knows m opening k.behind s.words id w)
      → IsKept m opening size (record { words = s.words; homes = s.homes; views = slice_set s.views id w })
  view_keeps m opening size s k id v w at same more knows = record {
    behind = k.behind;
    begins = k.begins;
    legal = k.legal;
    front = k.front;
    width = k.width;
    wide = k.wide;
    deep = k.deep;
    turns = k.turns;
    at_home = k.at_home;
    out = λ p h o. out_set s.views id v w at same.0 (k.behind.owner p) p (more p) (k.out p h o);
    bank = k.bank;
    each_seat = each_set s.views id w (Knows m opening k.behind s.words) knows (λ j u n there live. k.each_seat j u there live);
    seats = seats_set k.behind k.behind s.views id v w k.seats at same refl refl;
    unmade = k.unmade;
    at_end = k.at_end;
  }
