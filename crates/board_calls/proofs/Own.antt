-- A processor's own local APIC is looked at and changed.
use Rattle.std.proofs.Common.{◌≡◌, ℕ, zero, suc, true, false, nat_eq, if◌then◌else◌, List, [], ◌∷◌, slice_get, slice_set, length-set, Some, None, refl, sym, ap, subst, ◌∙◌, arith}
use Rattle.std.proofs.lemmas.Bool.Decides.{nat_tests}
use Rattle.std.specs.Prelude.{IfSome, is_some}
use Rattle.std.specs.declared.option.Option.{Option}
use Rattle.irq_base.specs.declared.shape.Part.TheVariants.{Registry, Counters, Tick, Pic, Ioapic, Lapic}
use Rattle.irq_base.specs.declared.shape.Shape.{Shape}
use Rattle.lapic.specs.declared.outcome.Effect.TheVariants.{Plain}
use Rattle.lapic.specs.Registers.{LocalApic}
use Rattle.lapic.specs.Offsets.{store_to, store_effect}
use Rattle.board_model.specs.Hand.{flat}
use Rattle.board_model.specs.Plan.{Plan, done, look}
use Rattle.board_model.specs.Run.{Wishes, run_on}
use Rattle.board_raise.specs.declared.parts.Parts as code
use Rattle.board_raise.specs.InHand.{parts_of}
use Rattle.board_raise.specs.OnRow.{Row, apic_in}
use Rattle.board_raise.specs.Shown.{EndsWith}
use Rattle.board_raise.proofs.Rows.{apic_in-other}
use Rattle.board_ack.proofs.Adding.{looked}
use Rattle.board_calls.specs.Done.{SameInHand, FitsShape}
use Rattle.board_calls.specs.Own.{stored, storing}

-- the parts with another local APIC of the processor
abbrev pub with_own : code.Parts → ℕ → LocalApic → code.Parts
with_own p n new = record p { lapics = slice_set p.lapics n (Some new) }

no_place : {X : Type 0} (x : X) → None ≡ Some x → ⊥
no_place x h = cc

set_there : {X : Type 0} (xs : List X) (i : ℕ) (x y : X) → slice_get xs i ≡ Some y → slice_get (slice_set xs i x) i ≡ Some x
set_there [] i x y h = absurd (no_place y h)
set_there (z ∷ zs) zero x y h = refl
set_there (z ∷ zs) (suc i) x y h = set_there zs i x y h

put_back : {X : Type 0} (xs : List X) (i : ℕ) (x : X) → slice_get xs i ≡ Some x → slice_set xs i x ≡ xs
put_back [] i x h = refl
put_back (z ∷ zs) zero x h = let same : z ≡ x = cc in ap (λ y. y ∷ zs) (sym same)
put_back (z ∷ zs) (suc i) x h = ap (λ ys. z ∷ ys) (put_back zs i x h)

module _ (p : code.Parts) (n : ℕ) (apic : LocalApic) (there : slice_get p.lapics n ≡ Some (Some apic)) where
  here : apic_in p.lapics n ≡ Some apic
  here = ap flat there

  -- it is looked at
  pub own_seen : {A : Type 0} (k : LocalApic → Plan A) (ws : Wishes) → run_on (look (Lapic n) k) (parts_of p) ws ≡ run_on (k apic) (parts_of p) ws
  own_seen k ws = looked (Lapic n) k (parts_of p) ws apic here

  -- it is as it was
  pub own_stays : with_own p n apic ≡ p
  own_stays = ap (λ (row : Row). record p { lapics = row }) (put_back p.lapics n (Some apic) there)

  -- a store of another length
  pub unstored_ends : (offset len value : ℕ) (ws : Wishes) → (len ≡ 4 → ⊥) → EndsWith Plain [] [] (parts_of (with_own p n apic)) ws (run_on (storing n offset len value) (parts_of p) ws)
  unstored_ends offset len value ws other =
      let t : nat_eq len 4 ≡ false = grind (arith, other) in
      subst (EndsWith Plain [] [] (parts_of (with_own p n apic)) ws)
      (sym (own_seen (λ v. if nat_eq len 4 then stored n (store_to v offset value) (store_effect v offset value) else done Plain) ws ∙ ap (λ u. run_on (if u then stored n (store_to apic offset value) (store_effect apic offset value) else done Plain) (parts_of p) ws) t))
      (record { value_is = refl; events_are = refl; replies_are = refl; parts = ap parts_of own_stays; wishes = refl })

  -- ---- what stays

  -- what holds of the changed one at its place, and of each other as it was, holds at each place
  each_place : (new : LocalApic) (Q : ℕ → Option LocalApic → Type 0) → Q n (Some new) → (m : ℕ) → Q m (apic_in p.lapics m) → Q m (apic_in (slice_set p.lapics n (Some new)) m)
  each_place new Q own m other = elim (nat_eq m n) as (λ t. nat_eq m n ≡ t → Q m (apic_in (slice_set p.lapics n (Some new)) m)) [
    | true ↦ λ e.
        let is : m ≡ n = grind (e, arith, nat_tests) in
        subst (λ k. Q k (apic_in (slice_set p.lapics n (Some new)) k)) (sym is) (subst (Q n) (sym (ap flat (set_there p.lapics n (Some new) (Some apic) there))) own)
    | false ↦ λ e. subst (Q m) (sym (apic_in-other p.lapics n m (Some new) e)) other
  ] refl

  pub changed_held : (new : LocalApic) → SameInHand p (with_own p n new)
  changed_held new Registry = refl
  changed_held new Counters = refl
  changed_held new Tick = refl
  changed_held new Pic = refl
  changed_held new Ioapic = refl
  changed_held new (Lapic m) = each_place new (λ k o. is_some o ≡ is_some (apic_in p.lapics k)) (sym (ap is_some here)) m refl

  pub changed_fits : (new : LocalApic) → new.number ≡ apic.number → (shape : Shape) → FitsShape shape p → FitsShape shape (with_own p n new)
  changed_fits new same shape fits = record {
    limits = fits.limits;
    counters = fits.counters;
    registrations = fits.registrations;
    tick = fits.tick;
    lapics = record {
      places = length-set p.lapics n (Some new) ∙ fits.lapics.places;
      numbers = λ m. each_place new (λ k o. IfSome o (λ a. a.number ≡ k)) (same ∙ subst (λ (o : Option LocalApic). IfSome o (λ a. a.number ≡ n)) here (fits.lapics.numbers n)) m (fits.lapics.numbers m);
    };
    pins = fits.pins;
  }
