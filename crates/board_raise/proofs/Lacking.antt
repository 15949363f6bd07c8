-- What a sending lacks is reached and not in hand; where it lacks nothing, all that it reaches is in hand.
use Rattle.std.proofs.Common.{◌≡◌, ℕ, Bool, true, false, ◌&&◌, ◌||◌, List, [], ◌∷◌, true≢false, refl, sym, ap, ◌∙◌, subst, is_some, Some, None}
use Rattle.std.specs.Prelude.{option_map}
use Rattle.std.specs.declared.option.Option.{Option}
use Rattle.irq_base.specs.declared.message.Message.{Message}
use Rattle.irq_base.specs.declared.shape.Part.{Part}
use Rattle.irq_base.specs.declared.shape.Part.TheVariants.{Lapic}
use Rattle.lapic.specs.declared.outcome.Shorthand.{Shorthand}
use Rattle.lapic.specs.Registers.{LocalApic}
use Rattle.lapic.specs.Messages.{is_taken}
use Rattle.board_model.specs.Board.{is_same}
use Rattle.board_model.specs.Hand.{Parts, part_in}
use Rattle.board_model.specs.Agreement.{LacksReached, HoldsReached}
use Rattle.board_model.proofs.Lens.{same_is, same_itself}
use Rattle.board_model.proofs.Alike.{or-true, or-true_right}
use Rattle.board_raise.specs.declared.parts.Parts as code
use Rattle.board_raise.specs.InHand.{parts_of}
use Rattle.board_raise.specs.Send.{reached_by}
use Rattle.board_raise.specs.OnRow.{apic_in, missing_or, first_missing}
use Rattle.board_raise.specs.ReachLaws.{is_of_one, of_message}

Some_is : {A : Type 0} (x y : A) → Some x ≡ Some y → x ≡ y
Some_is x y e = cc

Some_none : {A : Type 0} (x : A) → Some x ≡ None → ⊥
Some_none x e = cc

and_second : (a b : Bool) → (a && b) ≡ true → b ≡ true
and_second true b h = h
and_second false b h = absurd (true≢false (sym h))

-- ---- of some processors

module _ (q : Parts) where
  first_missing-lacks : (ns : List ℕ) (n : ℕ) → first_missing q.lapics ns ≡ Some n → LacksReached (Lapic n) q (is_of_one ns)
  first_missing-lacks [] n e = absurd (Some_none n (sym e))
  first_missing-lacks (m ∷ ns) n e = elim (apic_in q.lapics m) as (λ (x : Option LocalApic). apic_in q.lapics m ≡ x → missing_or m x (first_missing q.lapics ns) ≡ Some n → LacksReached (Lapic n) q (is_of_one (m ∷ ns))) [
    | None ↦ λ none f. subst (λ k. LacksReached (Lapic k) q (is_of_one (m ∷ ns))) (Some_is m n f) (record { lacking = none; reached = or-true (is_same (Lapic m) (Lapic m)) (is_of_one ns (Lapic m)) (same_itself (Lapic m)) })
    | Some apic ↦ λ _ f.
        let later = first_missing-lacks ns n f in
        record { lacking = later.lacking; reached = or-true_right (is_same (Lapic m) (Lapic n)) (is_of_one ns (Lapic n)) later.reached }
  ] refl e

  none_missing-holds : (ns : List ℕ) → first_missing q.lapics ns ≡ None → HoldsReached q (is_of_one ns)
  none_missing-holds [] e p h = absurd (true≢false (sym h))
  none_missing-holds (m ∷ ns) e p h = elim (apic_in q.lapics m) as (λ (x : Option LocalApic). apic_in q.lapics m ≡ x → missing_or m x (first_missing q.lapics ns) ≡ None → is_some (part_in q p) ≡ true) [
    | None ↦ λ _ f. absurd (Some_none m f)
    | Some apic ↦ λ here f. elim (is_same (Lapic m) p) as (λ t. is_same (Lapic m) p ≡ t → (t || is_of_one ns p) ≡ true → is_some (part_in q p) ≡ true) [
      | true ↦ λ s _. subst (λ x. is_some (part_in q x) ≡ true) (same_is (Lapic m) p s) (ap is_some here)
      | false ↦ λ _ r. none_missing-holds ns f p r
    ] refl h
  ] refl e

-- ---- of a message, on the parts that a rig lent

module _ (cpus : ℕ) (message : Message) (from : Option (ℕ × Shorthand)) (old : code.Parts) where
  abbrev ns : List ℕ
  ns = reached_by message from cpus

  pub all_holds : (lent : code.Parts) → lent ≡ old → first_missing lent.lapics ns ≡ None → HoldsReached (parts_of old) (of_message message from cpus)
  all_holds lent same all p h =
      none_missing-holds (parts_of old) ns (ap (λ (x : code.Parts). first_missing x.lapics ns) (sym same) ∙ all) p (and_second (is_taken message.mode) (is_of_one ns p) h)

  pub lacks_reached : is_taken message.mode ≡ true → (lent : code.Parts) (part : Part) → lent ≡ old → option_map Lapic (first_missing lent.lapics ns) ≡ Some part → LacksReached part (parts_of old) (of_message message from cpus)
  lacks_reached taken lent part same missing = elim (first_missing old.lapics ns) as (λ (o : Option ℕ). first_missing old.lapics ns ≡ o → option_map Lapic o ≡ Some part → LacksReached part (parts_of old) (of_message message from cpus)) [
    | None ↦ λ _ f. absurd (Some_none part (sym f))
    | Some n ↦ λ e f. subst (λ x. LacksReached x (parts_of old) (of_message message from cpus)) (Some_is (Lapic n) part f) (is_reached n (first_missing-lacks (parts_of old) ns n e))
  ] refl (ap (λ (x : code.Parts). option_map Lapic (first_missing x.lapics ns)) (sym same) ∙ missing)
    where
      is_reached : (n : ℕ) → LacksReached (Lapic n) (parts_of old) (is_of_one ns) → LacksReached (Lapic n) (parts_of old) (of_message message from cpus)
      is_reached n h = record { lacking = h.lacking; reached = ap (λ t. t && is_of_one ns (Lapic n)) taken ∙ h.reached }
