-- Each part of a board as a sound board has it.
use Rattle.board_step.proofs.Basics.{◌≡◌, ℕ, ◌≤◌, zero, suc, true, false, nat_eq, List, [], ◌∷◌, length, refl, ap, subst, ◌∙◌, arith, slice_get, slice_set, unwrap_or, Part, Registry, Counters, Tick, Pic, Ioapic, Lapic, Shape, LocalApic, power_on, RegistryPart, IoapicPart, ValueOf, Board, part_of, with_part, part_of-with_other, HoldsStand, Pin}
use Rattle.board_step.proofs.SoundCounts.{CountsFine}

pub record IoapicFine (r : RegistryPart) (part : IoapicPart) : Type 0 where
  pub entries : length part.entries ≡ 24
  pub holds : HoldsStand r part.holds 24 Pin.Ioapic

number_set : (xs : List LocalApic) (n m : ℕ) (v d : LocalApic) → v.number ≡ m → d.number ≡ m → (unwrap_or (slice_get (slice_set xs n v) n) d).number ≡ m
number_set [] n m v d e f = f
number_set (x ∷ xs) zero m v d e f = e
number_set (x ∷ xs) (suc n) m v d e f = number_set xs n m v d e f

module _ (r : RegistryPart) (shape : Shape) (bound : ℕ) where
  -- a part as a sound board with this registry has it, so many ticks being pending at most
  abbrev pub Fine : (p : Part) → ValueOf p → Type 0
  Fine Registry v = v ≡ r
  Fine Counters v = CountsFine r shape.counters v
  Fine Tick v = v.pending ≤ bound
  Fine Pic v = HoldsStand r v.holds 16 Pin.Pic
  Fine Ioapic v = IoapicFine r v
  Fine (Lapic n) v = v.number ≡ n

  abbrev pub Each : Board → Type 0
  Each b = (p : Part) → Fine p (part_of b p)

  pub each_with : (b : Board) (p : Part) (v : ValueOf p) → Each b → Fine p v → Each (with_part b p v)
  each_with b Registry v each fine Registry = fine
  each_with b Counters v each fine Counters = fine
  each_with b Tick v each fine Tick = fine
  each_with b Pic v each fine Pic = fine
  each_with b Ioapic v each fine Ioapic = fine
  each_with b (Lapic n) v each fine (Lapic m) =
      elim (nat_eq n m) as (λ t. nat_eq n m ≡ t → (part_of (with_part b (Lapic n) v) (Lapic m)).number ≡ m) [
        | true ↦ λ e. let same : n ≡ m = grind (arith, e) in subst (λ (k : ℕ). (part_of (with_part b (Lapic n) v) (Lapic k)).number ≡ k) same (number_set b.lapics n n v (power_on n) fine refl)
        | false ↦ λ e. ap (λ (a : LocalApic). a.number) (part_of-with_other b (Lapic n) (Lapic m) v e) ∙ each (Lapic m)
      ] refl
  each_with b _ v each fine part = each part
