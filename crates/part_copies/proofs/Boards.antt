-- The slots of a board are those of its parts, and make them again.
use Rattle.std.proofs.Common.{◌≡◌, ℕ, ◌≤◌, true, List, [], ◌∷◌, ◌++◌, length, map, slice_get, Some, None, refl, sym, ap, ◌∙◌, subst, arith}
use Rattle.std.specs.Prelude.{IfSome, option_map}
use Rattle.std.specs.declared.option.Option.{Option}
use Rattle.irq_base.specs.declared.shape.Shape.{Shape}
use Rattle.pic_8259a.specs.declared.pair.Pair.{Pair}
use Rattle.ioapic_82093aa.specs.declared.ioapic.Ioapic.{Ioapic as Chip}
use Rattle.source_levels.specs.Holds.{Holds}
use Rattle.lapic.specs.Registers.{LocalApic}
use Rattle.tick_reinject.specs.declared.state.TickState.{TickState}
use Rattle.board_model.specs.Board.{Board}
use Rattle.board_model.specs.Hand.{Parts as InHand, all_parts}
use Rattle.board_raise.specs.declared.parts.RegistryPart.{RegistryPart}
use Rattle.board_raise.specs.declared.parts.PicPart.{PicPart}
use Rattle.board_raise.specs.declared.parts.IoPart.{IoPart}
use Rattle.board_raise.specs.declared.parts.Parts.{Parts}
use Rattle.board_raise.specs.Fit.{PairFits, IoapicFits, PinsFit, Fits}
use Rattle.board_raise.specs.InHand.{registry_of, pic_of, ioapic_of, parts_of, chips_of}
use Rattle.board_raise.specs.OnRow.{Row}
use Rattle.board_step.specs.Sound.{IsSound}
use Rattle.board_step.specs.Whole.{IsWhole, board_of}
use Rattle.board_step.proofs.OpeningParts.{sound_fits}
use Rattle.board_step.proofs.WholeParts.{parts_make_their_board, all_parts_are_whole}
use Rattle.part_slots.specs.declared.slot.Slot.{Slot}
use Rattle.part_slots.specs.declared.slot.Slot.TheVariants as slots
use Rattle.part_slots.specs.Slots.{registry_slot as home_of, pic_slot as pic_of_board, ioapic_slot as ioapic_of_board, slots_of}
use Rattle.part_slots.specs.Histories.{KeepsPart}
use Rattle.part_slots.proofs.Commits.{kept_parts_are_slots}
use Rattle.part_copies.specs.Gathering.{listed, registry_slot, counters_slot, tick_slot, pic_slot, ioapic_slot, apic_slots, five_slots, slots_in, apics_in, gathered, none_but}
use Rattle.part_copies.proofs.Rows.{all_apics, row_filled, apics_many}

some_is : {A : Type 0} (x y : A) → Some x ≡ Some y → x ≡ y
some_is x y e = cc

-- ---- parts as slots

module _ (b : Board) where
  registry_listed : (o : Option RegistryPart) → option_map registry_of o ≡ Some b.registry → listed (registry_slot b.shape o) ≡ home_of b ∷ []
  registry_listed None is = cc
  registry_listed (Some r) is = ap (λ s. s ∷ []) (sym (some_is _ _ (kept_parts_are_slots b 0 (slots.Registry (record { registry = r; shape = b.shape })) (record { there = refl; same = is }) refl)))

  counters_listed : (o : Option (List ℕ)) → o ≡ Some b.counters → listed (counters_slot o) ≡ slots.Counters b.counters ∷ []
  counters_listed o is = ap (λ x. listed (counters_slot x)) is

  tick_listed : (o : Option TickState) → o ≡ Some b.tick → listed (tick_slot o) ≡ slots.Tick b.tick ∷ []
  tick_listed o is = ap (λ x. listed (tick_slot x)) is

  pic_listed : (o : Option PicPart) → option_map pic_of o ≡ Some b.pic → IfSome {T = Pair × Holds} (option_map (λ (c : PicPart). (c.pair, c.levels)) o) (λ p. PairFits p.0 p.1) → listed (pic_slot o) ≡ pic_of_board b ∷ []
  pic_listed None is fits = cc
  pic_listed (Some c) is fits = ap (λ s. s ∷ []) (sym (some_is _ _ (kept_parts_are_slots b 3 (slots.Pic c) (record { there = refl; same = is }) fits)))

  ioapic_listed : (o : Option IoPart) → option_map ioapic_of o ≡ Some b.ioapic → IfSome {T = Chip × Holds} (option_map (λ (c : IoPart). (c.ioapic, c.levels)) o) (λ p. IoapicFits p.0 p.1) → listed (ioapic_slot o) ≡ ioapic_of_board b ∷ []
  ioapic_listed None is fits = cc
  ioapic_listed (Some c) is fits = ap (λ s. s ∷ []) (sym (some_is _ _ (kept_parts_are_slots b 4 (slots.Ioapic c) (record { there = refl; same = is }) fits)))

  -- the slots of all parts of a board are the board's
  pub slots_are : (p : Parts) → parts_of p ≡ all_parts b → PinsFit (chips_of p) → slots_in b.shape p ≡ slots_of b
  slots_are p is pins =
      let r = registry_listed p.registry (ap (λ (q : InHand). q.registry) is) in
      let c = counters_listed p.counters (ap (λ (q : InHand). q.counters) is) in
      let t = tick_listed p.tick (ap (λ (q : InHand). q.tick) is) in
      let a = pic_listed p.pic (ap (λ (q : InHand). q.pic) is) pins.pic in
      let o = ioapic_listed p.ioapic (ap (λ (q : InHand). q.ioapic) is) pins.ioapic in
      let row = ap (λ (x : Row). apic_slots (length x) x) (ap (λ (q : InHand). q.lapics) is) ∙ all_apics b.lapics in
      λ i. ((((r i ++ c i) ++ t i) ++ a i) ++ o i) ++ row i

-- ---- slots as parts

-- all parts of a board, with pins that are those that are held
pub record AreAll (p : Parts) (b : Board) : Type 0 where
  pub parts : parts_of p ≡ all_parts b
  pub pins : PinsFit (chips_of p)

-- a board's slots make its parts, in a row with a place for each local APIC
pub left_are : (b : Board) (row : Row) → length row ≡ length b.lapics → AreAll (gathered (slots_of b) 0 (none_but row)) b
left_are b row many = subst (λ p. AreAll p b) (sym (row_filled b.lapics _ many)) (record {
  parts = refl;
  pins = record { pic = record { master = refl; slave = refl }; ioapic = refl };
})

-- there is a place for each
pub left_room : (b : Board) → apics_in (slots_of b) ≡ length b.lapics
left_room b = apics_many b.lapics

-- ---- the board that is left

module _ (b : Board) (p : Parts) (all : AreAll p b) (sound : IsSound b) where
  pub left_whole : IsWhole b.shape (parts_of p)
  left_whole = subst (IsWhole b.shape) (sym all.parts) (all_parts_are_whole b sound.lapics.places)

  pub left_fits : Fits b.shape (parts_of p) (chips_of p)
  left_fits = subst (λ q. Fits b.shape q (chips_of p)) (sym all.parts) (sound_fits b (chips_of p) sound all.pins)

  pub left_board : board_of b.shape (parts_of p) b.length b.publications ≡ b
  left_board = ap (λ q. board_of b.shape q b.length b.publications) all.parts ∙ parts_make_their_board b
