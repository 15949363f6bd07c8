-- Slots are equal where the parts are, and the other way round.
use Rattle.std.proofs.Common.{◌≡◌, ℕ, zero, suc, List, [], ◌∷◌, map, length, slice_get, unwrap_or, Some, refl, sym, ap, ◌∙◌}
use Rattle.std.specs.declared.option.Option.{Option}
use Rattle.irq_base.specs.declared.shape.Part.{Part}
use Rattle.tick_reinject.specs.declared.state.TickState.{TickState}
use Rattle.lapic.specs.Registers.{LocalApic, power_on}
use Rattle.board_model.specs.Registry.{RegistryPart}
use Rattle.board_model.specs.Chips.{PicPart, IoapicPart}
use Rattle.board_model.specs.Board.{Board, part_of}
use Rattle.board_raise.specs.InHand.{registry_of, pic_of, ioapic_of}
use Rattle.part_slots.specs.declared.slot.Slot.{Slot}
use Rattle.part_slots.specs.declared.slot.Slot.TheVariants as slots
use Rattle.part_slots.specs.Slots.{part_at, registry_slot, pic_slot, ioapic_slot, slots_of}

-- ---- local APICs

abbrev pub lapic_slots : List LocalApic → List Slot
lapic_slots row = map (λ (a : LocalApic). slots.Lapic a) row

-- the local APIC in a slot
abbrev lapic_in : LocalApic → Option Slot → LocalApic
lapic_in d (Some (slots.Lapic a)) = a
lapic_in d _ = d

lapic_back : (row : List LocalApic) (n : ℕ) (d : LocalApic) → lapic_in d (slice_get (lapic_slots row) n) ≡ unwrap_or (slice_get row n) d
lapic_back [] n d = refl
lapic_back (a ∷ row) zero d = refl
lapic_back (a ∷ row) (suc n) d = lapic_back row n d

lapic_same : (row other : List LocalApic) (n : ℕ) (d : LocalApic) → length row ≡ length other → unwrap_or (slice_get row n) d ≡ unwrap_or (slice_get other n) d → slice_get (lapic_slots row) n ≡ slice_get (lapic_slots other) n
lapic_same [] [] n d places same = refl
lapic_same [] (o ∷ other) n d places same = cc
lapic_same (a ∷ row) [] n d places same = cc
lapic_same (a ∷ row) (o ∷ other) zero d places same = ap (λ x. Some (slots.Lapic x)) same
lapic_same (a ∷ row) (o ∷ other) (suc n) d places same = lapic_same row other n d (cc) same

-- ---- each part

-- what two boards have alike besides their parts, where a slot shows it
pub record AlikeAt (b c : Board) (p : Part) : Type 0 where
  pub shape : b.shape ≡ c.shape
  pub lapics : length b.lapics ≡ length c.lapics
  pub part : part_of b p ≡ part_of c p

registry_same : (b c : Board) → b.shape ≡ c.shape → b.registry ≡ c.registry → registry_slot b ≡ registry_slot c
registry_same b c shape registry = λ i. slots.Registry (record {
  registry = record { table = (registry i).table; irqfds = (registry i).irqfds; watches = (registry i).watches; ioevents = (registry i).ioevents };
  shape = shape i;
})

-- where a part is the same its slot is
pub slot_same : (b c : Board) (k : ℕ) → AlikeAt b c (part_at k) → slice_get (slots_of b) k ≡ slice_get (slots_of c) k
slot_same b c zero alike = ap (λ s. Some s) (registry_same b c alike.shape alike.part)
slot_same b c (suc zero) alike = ap (λ v. Some (slots.Counters v)) alike.part
slot_same b c (suc (suc zero)) alike = ap (λ v. Some (slots.Tick v)) alike.part
slot_same b c (suc (suc (suc zero))) alike = ap (λ v. Some (pic_slot (record b { pic = v }))) alike.part
slot_same b c (suc (suc (suc (suc zero)))) alike = ap (λ v. Some (ioapic_slot (record b { ioapic = v }))) alike.part
slot_same b c (suc (suc (suc (suc (suc n))))) alike = lapic_same b.lapics c.lapics n (power_on n) alike.lapics alike.part

-- ---- and back

abbrev registry_in : RegistryPart → Option Slot → RegistryPart
registry_in d (Some (slots.Registry home)) = registry_of home.registry
registry_in d _ = d

abbrev counters_in : Option Slot → List ℕ
counters_in (Some (slots.Counters v)) = v
counters_in _ = []

abbrev tick_in : TickState → Option Slot → TickState
tick_in d (Some (slots.Tick v)) = v
tick_in d _ = d

abbrev pic_in : PicPart → Option Slot → PicPart
pic_in d (Some (slots.Pic v)) = pic_of v
pic_in d _ = d

abbrev ioapic_in : IoapicPart → Option Slot → IoapicPart
ioapic_in d (Some (slots.Ioapic v)) = ioapic_of v
ioapic_in d _ = d

-- where a slot is the same its part is
pub part_same : (b c : Board) (k : ℕ) → slice_get (slots_of b) k ≡ slice_get (slots_of c) k → part_of b (part_at k) ≡ part_of c (part_at k)
part_same b c zero same = ap (registry_in b.registry) same
part_same b c (suc zero) same = ap counters_in same
part_same b c (suc (suc zero)) same = ap (tick_in b.tick) same
part_same b c (suc (suc (suc zero))) same = ap (pic_in b.pic) same
part_same b c (suc (suc (suc (suc zero)))) same = ap (ioapic_in b.ioapic) same
part_same b c (suc (suc (suc (suc (suc n))))) same = sym (lapic_back b.lapics n (power_on n)) ∙ ap (lapic_in (power_on n)) same ∙ lapic_back c.lapics n (power_on n)
