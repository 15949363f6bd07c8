-- Slots into which the parts in hand are written are those of the board to which the call led.
use Rattle.std.proofs.Common.{◌≡◌, ℕ, zero, suc, ◌≤◌, true, true≢false, List, length, slice_get, is_some, Some, None, refl, sym, ap, ◌∙◌, subst, arith}
use Rattle.std.specs.Prelude.{IfSome, option_map}
use Rattle.std.specs.declared.option.Option.{Option}
use Rattle.irq_base.specs.declared.shape.Part.TheVariants.{Registry, Counters, Tick, Pic, Ioapic, Lapic}
use Rattle.pic_8259a.specs.declared.pair.Pair.{Pair}
use Rattle.ioapic_82093aa.specs.declared.ioapic.Ioapic.{Ioapic as Chip}
use Rattle.source_levels.specs.Holds.{Holds}
use Rattle.lapic.specs.Registers.{LocalApic}
use Rattle.tick_reinject.specs.declared.state.TickState.{TickState}
use Rattle.board_model.specs.Board.{Board}
use Rattle.board_model.specs.Registry.{RegistryPart as KeptRegistry}
use Rattle.board_model.specs.Chips.{PicPart as KeptPic, IoapicPart as KeptIoapic}
use Rattle.board_model.specs.Hand.{part_in, all_parts}
use Rattle.board_model.specs.Agreement.{Agrees}
use Rattle.board_raise.specs.declared.parts.Parts.{Parts}
use Rattle.board_raise.specs.declared.parts.RegistryPart.{RegistryPart}
use Rattle.board_raise.specs.declared.parts.PicPart.{PicPart}
use Rattle.board_raise.specs.declared.parts.IoPart.{IoPart}
use Rattle.board_raise.specs.Fit.{PairFits, IoapicFits, PinsFit}
use Rattle.board_raise.specs.InHand.{registry_of, pic_of, ioapic_of, parts_of, chips_of}
use Rattle.board_raise.specs.OnRow.{apic_in}
use Rattle.part_slots.specs.declared.slot.Slot.{Slot}
use Rattle.part_slots.specs.declared.slot.Slot.TheVariants as slots
use Rattle.part_slots.specs.Slots.{part_at, registry_slot, pic_slot, ioapic_slot, slots_of}
use Rattle.part_slots.proofs.Commits.{kept_parts_are_slots}
use Rattle.part_copies.specs.Copied.{or_kept, written_by, FitsOver}
use Rattle.part_copies.proofs.Copied.{apic_at}
use Rattle.part_reach.proofs.Copied.{some_is, five_less}
use Rattle.irq_bits.specs.declared.limits.TheConstants.{MAX_CPUS}

-- the board before, that after, and the parts that are left in hand
module _ (b c : Board) (q : Parts) (agrees : Agrees (parts_of q) c) (pins : PinsFit (chips_of q)) (shape : c.shape ≡ b.shape) where
  registry_home : (o : Option RegistryPart) (kept : RegistryPart) → is_some (option_map registry_of o) ≡ true → ((v : KeptRegistry) → option_map registry_of o ≡ Some v → Some c.registry ≡ Some v) → slice_get (slots_of c) 0 ≡ Some (slots.Registry (record { registry = or_kept o kept; shape = b.shape }))
  registry_home None kept there agree = absurd (true≢false (sym there))
  registry_home (Some r) kept there agree = kept_parts_are_slots c 0 (slots.Registry (record { registry = r; shape = b.shape })) (record { there = refl; same = sym (agree (registry_of r) refl) }) (sym shape)

  counters_home : (o : Option (List ℕ)) (kept : List ℕ) → is_some o ≡ true → ((v : List ℕ) → o ≡ Some v → Some c.counters ≡ Some v) → slice_get (slots_of c) 1 ≡ Some (slots.Counters (or_kept o kept))
  counters_home None kept there agree = absurd (true≢false (sym there))
  counters_home (Some r) kept there agree = kept_parts_are_slots c 1 (slots.Counters r) (record { there = refl; same = sym (agree r refl) }) tt

  tick_home : (o : Option TickState) (kept : TickState) → is_some o ≡ true → ((v : TickState) → o ≡ Some v → Some c.tick ≡ Some v) → slice_get (slots_of c) 2 ≡ Some (slots.Tick (or_kept o kept))
  tick_home None kept there agree = absurd (true≢false (sym there))
  tick_home (Some r) kept there agree = kept_parts_are_slots c 2 (slots.Tick r) (record { there = refl; same = sym (agree r refl) }) tt

  pic_home : (o : Option PicPart) (kept : PicPart) → is_some (option_map pic_of o) ≡ true → ((v : KeptPic) → option_map pic_of o ≡ Some v → Some c.pic ≡ Some v) → IfSome {T = Pair × Holds} (option_map (λ (p : PicPart). (p.pair, p.levels)) o) (λ p. PairFits p.0 p.1) → slice_get (slots_of c) 3 ≡ Some (slots.Pic (or_kept o kept))
  pic_home None kept there agree fits = absurd (true≢false (sym there))
  pic_home (Some r) kept there agree fits = kept_parts_are_slots c 3 (slots.Pic r) (record { there = refl; same = sym (agree (pic_of r) refl) }) fits

  ioapic_home : (o : Option IoPart) (kept : IoPart) → is_some (option_map ioapic_of o) ≡ true → ((v : KeptIoapic) → option_map ioapic_of o ≡ Some v → Some c.ioapic ≡ Some v) → IfSome {T = Chip × Holds} (option_map (λ (p : IoPart). (p.ioapic, p.levels)) o) (λ p. IoapicFits p.0 p.1) → slice_get (slots_of c) 4 ≡ Some (slots.Ioapic (or_kept o kept))
  ioapic_home None kept there agree fits = absurd (true≢false (sym there))
  ioapic_home (Some r) kept there agree fits = kept_parts_are_slots c 4 (slots.Ioapic r) (record { there = refl; same = sym (agree (ioapic_of r) refl) }) fits

  apic_home : (n : ℕ) (o : Option LocalApic) (kept : LocalApic) → is_some o ≡ true → ((v : LocalApic) → o ≡ Some v → part_in (all_parts c) (Lapic n) ≡ Some v) → slice_get (slots_of c) (suc (suc (suc (suc (suc n))))) ≡ Some (slots.Lapic (or_kept o kept))
  apic_home n None kept there agree = absurd (true≢false (sym there))
  apic_home n (Some r) kept there agree = kept_parts_are_slots c (suc (suc (suc (suc (suc n))))) (slots.Lapic r) (record { there = refl; same = sym (agree r refl) }) tt

  -- a slot into which the part in hand is written is the next board's
  pub written_home : (k : ℕ) (x : Slot) → slice_get (slots_of b) k ≡ Some x → is_some (part_in (parts_of q) (part_at k)) ≡ true → slice_get (slots_of c) k ≡ Some (written_by k q x)
  written_home zero x is there = subst (λ s. slice_get (slots_of c) 0 ≡ Some (written_by 0 q s)) (some_is (registry_slot b) x is) (registry_home q.registry _ there (agrees Registry))
  written_home (suc zero) x is there = subst (λ s. slice_get (slots_of c) 1 ≡ Some (written_by 1 q s)) (some_is (slots.Counters b.counters) x is) (counters_home q.counters _ there (agrees Counters))
  written_home (suc (suc zero)) x is there = subst (λ s. slice_get (slots_of c) 2 ≡ Some (written_by 2 q s)) (some_is (slots.Tick b.tick) x is) (tick_home q.tick _ there (agrees Tick))
  written_home (suc (suc (suc zero))) x is there = subst (λ s. slice_get (slots_of c) 3 ≡ Some (written_by 3 q s)) (some_is (pic_slot b) x is) (pic_home q.pic _ there (agrees Pic) pins.pic)
  written_home (suc (suc (suc (suc zero)))) x is there = subst (λ s. slice_get (slots_of c) 4 ≡ Some (written_by 4 q s)) (some_is (ioapic_slot b) x is) (ioapic_home q.ioapic _ there (agrees Ioapic) pins.ioapic)
  written_home (suc (suc (suc (suc (suc n))))) x is there =
      let (a, slot, low) = apic_at b.lapics n x is in
      apic_home n (apic_in q.lapics n) a there (agrees (Lapic n))
      ∙ ap (λ i. Some (slots.Lapic (or_kept (apic_in q.lapics i) a))) (sym (five_less n))
      ∙ ap (λ s. Some (written_by (suc (suc (suc (suc (suc n))))) q s)) (sym slot)

  long_counters : (o : Option (List ℕ)) → length b.counters ≡ length c.counters → ((v : List ℕ) → o ≡ Some v → Some c.counters ≡ Some v) → IfSome o (λ copy. length b.counters ≡ length copy)
  long_counters None long agree = tt
  long_counters (Some v) long agree = long ∙ ap (λ x. length x) (some_is c.counters v (agree v refl))

  -- each part in hand can be written over the part of the board before
  pub fits_home : length b.counters ≡ length c.counters → length q.lapics ≡ length b.lapics → length b.lapics ≤ MAX_CPUS → (k : ℕ) (x : Slot) → slice_get (slots_of b) k ≡ Some x → FitsOver k q x
  fits_home long row few zero x is = subst (FitsOver 0 q) (some_is (registry_slot b) x is) tt
  fits_home long row few (suc zero) x is = subst (FitsOver 1 q) (some_is (slots.Counters b.counters) x is) (long_counters q.counters long (agrees Counters))
  fits_home long row few (suc (suc zero)) x is = subst (FitsOver 2 q) (some_is (slots.Tick b.tick) x is) tt
  fits_home long row few (suc (suc (suc zero))) x is = subst (FitsOver 3 q) (some_is (pic_slot b) x is) tt
  fits_home long row few (suc (suc (suc (suc zero)))) x is = subst (FitsOver 4 q) (some_is (ioapic_slot b) x is) tt
  fits_home long row few (suc (suc (suc (suc (suc n))))) x is =
      let (a, slot, low) = apic_at b.lapics n x is in
      subst (FitsOver (suc (suc (suc (suc (suc n))))) q) (sym slot) (omega (arith, low, row), omega (arith, low, few))
