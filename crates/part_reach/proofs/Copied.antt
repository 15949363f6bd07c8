-- Copies of the slots that a pen holds are the parts of the board that its list leaves.
use Rattle.std.proofs.Common.{◌≡◌, ℕ, zero, suc, ◌-◌, ◌<◌, Bool, true, false, true≢false, List, [], ◌∷◌, map, length, slice_get, slice_set, is_some, Some, None, nat_eq, refl, sym, ap, ◌∙◌, subst, arith, inl, inr}
use Rattle.std.proofs.lemmas.Bool.Decides.{eqb_tells, nat_tests}
use Rattle.std.specs.Prelude.{IfSome, option_map}
use Rattle.std.specs.declared.option.Option.{Option}
use Rattle.irq_base.specs.declared.shape.Part.{Part}
use Rattle.irq_base.specs.declared.shape.Part.TheVariants.{Registry, Counters, Tick, Pic, Ioapic, Lapic}
use Rattle.pic_8259a.specs.declared.pair.Pair.{Pair}
use Rattle.ioapic_82093aa.specs.declared.ioapic.Ioapic.{Ioapic as Chip}
use Rattle.source_levels.specs.Holds.{Holds}
use Rattle.lapic.specs.Registers.{LocalApic}
use Rattle.board_model.specs.Board.{Board, ValueOf, is_same}
use Rattle.board_model.specs.Hand.{Parts as InHand, part_in, all_parts, with_part_in, flat}
use Rattle.board_model.proofs.Lens.{in_other, same_is}
use Rattle.board_raise.specs.declared.parts.Parts.{Parts}
use Rattle.board_raise.specs.declared.parts.PicPart.{PicPart}
use Rattle.board_raise.specs.declared.parts.IoPart.{IoPart}
use Rattle.board_raise.specs.Fit.{PairFits, IoapicFits}
use Rattle.board_raise.specs.InHand.{pic_of, ioapic_of, parts_of, chips_of}
use Rattle.turn_book.specs.declared.view.Held.{Held}
use Rattle.turn_book.specs.Hands.{held_at}
use Rattle.turn_book.specs.Histories.{is_in}
use Rattle.turn_book.proofs.Lists.{in_first, in_more}
use Rattle.turn_copies.specs.Copies.{copied_at, copied_each}
use Rattle.part_slots.specs.declared.slot.Slot.{Slot}
use Rattle.part_slots.specs.declared.slot.Slot.TheVariants as slots
use Rattle.part_slots.specs.Slots.{place, part_at, registry_slot, pic_slot, ioapic_slot, slots_of}
use Rattle.part_slots.proofs.Inverse.{part_back, place_back}
use Rattle.part_slots.proofs.Places.{lapic_slots}
use Rattle.part_copies.specs.Copied.{with_copy}
use Rattle.part_copies.proofs.Copied.{apic_at}
use Rattle.part_reach.specs.Copies.{AreCopies}

pub some_is : {A : Type 0} (x y : A) → Some x ≡ Some y → x ≡ y
some_is x y e = cc

pub not_both : {A : Type 0} (t : Bool) → t ≡ true → t ≡ false → A
not_both t is out = absurd (true≢false (sym is ∙ out))

-- ---- rows

get_set : {A : Type 0} (row : List A) (n : ℕ) (x : A) → n < length row → slice_get (slice_set row n x) n ≡ Some x
get_set [] n x low = absurd (omega (arith, low))
get_set (a ∷ row) zero x low = refl
get_set (a ∷ row) (suc n) x low = get_set row n x (omega (arith, low))

pub length_set : {A : Type 0} (row : List A) (m : ℕ) (x : A) → length (slice_set row m x) ≡ length row
length_set [] m x = refl
length_set (a ∷ row) zero x = refl
length_set (a ∷ row) (suc m) x = ap suc (length_set row m x)

row_of : (apics : List LocalApic) (n : ℕ) (a : LocalApic) → slice_get (lapic_slots apics) n ≡ Some (slots.Lapic a) → flat (slice_get (map (λ x. Some x) apics) n) ≡ Some a
row_of [] n a is = cc
row_of (b ∷ apics) zero a is = cc
row_of (b ∷ apics) (suc n) a is = row_of apics n a is

pub five_less : (n : ℕ) → suc (suc (suc (suc (suc n)))) - 5 ≡ n
five_less n = omega arith

-- ---- names and places

pub same_number : (i j : ℕ) → nat_eq i j ≡ true → i ≡ j
same_number i j e = elim (eqb_tells i j) [
  | inl h ↦ h.1
  | inr h ↦ not_both (nat_eq i j) e h.0
]

pub number_itself : (i : ℕ) → nat_eq i i ≡ true
number_itself i = elim (eqb_tells i i) [
  | inl h ↦ h.0
  | inr h ↦ absurd (h.1 refl)
]

-- the part whose place it is
pub named_at : (p : ℕ) (r : Part) → nat_eq p (place r) ≡ true → part_at p ≡ r
named_at p r e = ap part_at (same_number p (place r) e) ∙ part_back r

-- another part than that of the place
pub other_at : (p : ℕ) (r : Part) → nat_eq p (place r) ≡ false → is_same (part_at p) r ≡ false
other_at p r e = by (is_same (part_at p) r) refl
  where
    by : (t : Bool) → is_same (part_at p) r ≡ t → t ≡ false
    by false is = refl
    by true is = not_both (nat_eq p (place r)) (ap (nat_eq p) (sym (ap place (same_is (part_at p) r is)) ∙ place_back p) ∙ number_itself p) e

-- ---- one copy

module _ (b : Board) (q : Parts) where
  -- the value of the part in a slot of the board
  copied_value : (p : ℕ) (x : Slot) → slice_get (slots_of b) p ≡ Some x → length q.lapics ≡ length b.lapics → part_in (parts_of (with_copy p x q)) (part_at p) ≡ part_in (all_parts b) (part_at p)
  copied_value zero x is row = ap (λ s. part_in (parts_of (with_copy 0 s q)) Registry) (sym (some_is (registry_slot b) x is))
  copied_value (suc zero) x is row = ap (λ s. part_in (parts_of (with_copy 1 s q)) Counters) (sym (some_is (slots.Counters b.counters) x is))
  copied_value (suc (suc zero)) x is row = ap (λ s. part_in (parts_of (with_copy 2 s q)) Tick) (sym (some_is (slots.Tick b.tick) x is))
  copied_value (suc (suc (suc zero))) x is row = ap (λ s. part_in (parts_of (with_copy 3 s q)) Pic) (sym (some_is (pic_slot b) x is))
  copied_value (suc (suc (suc (suc zero)))) x is row = ap (λ s. part_in (parts_of (with_copy 4 s q)) Ioapic) (sym (some_is (ioapic_slot b) x is))
  copied_value (suc (suc (suc (suc (suc n))))) x is row =
      let (a, slot, low) = apic_at b.lapics n x is in
      ap (λ s. part_in (parts_of (with_copy (suc (suc (suc (suc (suc n))))) s q)) (Lapic n)) slot
      ∙ ap (λ i. flat (slice_get (slice_set q.lapics i (Some a)) n)) (five_less n)
      ∙ ap flat (get_set q.lapics n (Some a) (omega (arith, low, row)))
      ∙ sym (row_of b.lapics n a (is ∙ ap (λ s. Some s) slot))

  -- a copy is a write to that part
  copy_writes : (p : ℕ) (x : Slot) → slice_get (slots_of b) p ≡ Some x → (w : ValueOf (part_at p)) × (parts_of (with_copy p x q) ≡ with_part_in (parts_of q) (part_at p) w)
  copy_writes zero x is = (b.registry, ap (λ s. parts_of (with_copy 0 s q)) (sym (some_is (registry_slot b) x is)))
  copy_writes (suc zero) x is = (b.counters, ap (λ s. parts_of (with_copy 1 s q)) (sym (some_is (slots.Counters b.counters) x is)))
  copy_writes (suc (suc zero)) x is = (b.tick, ap (λ s. parts_of (with_copy 2 s q)) (sym (some_is (slots.Tick b.tick) x is)))
  copy_writes (suc (suc (suc zero))) x is = (b.pic, ap (λ s. parts_of (with_copy 3 s q)) (sym (some_is (pic_slot b) x is)))
  copy_writes (suc (suc (suc (suc zero)))) x is = (b.ioapic, ap (λ s. parts_of (with_copy 4 s q)) (sym (some_is (ioapic_slot b) x is)))
  copy_writes (suc (suc (suc (suc (suc n))))) x is =
      let (a, slot, low) = apic_at b.lapics n x is in
      (a, ap (λ s. parts_of (with_copy (suc (suc (suc (suc (suc n))))) s q)) slot ∙ ap (λ i. record (parts_of q) { lapics = slice_set q.lapics i (Some a) }) (five_less n))

  -- it changes no other
  copy_leaves : (p : ℕ) (x : Slot) → slice_get (slots_of b) p ≡ Some x → (r : Part) → nat_eq p (place r) ≡ false → part_in (parts_of (with_copy p x q)) r ≡ part_in (parts_of q) r
  copy_leaves p x is r other = let (w, writes) = copy_writes p x is in ap (λ (c : InHand). part_in c r) writes ∙ in_other (parts_of q) (part_at p) r w (other_at p r other)

  copy_is : (p : ℕ) (x : Slot) → slice_get (slots_of b) p ≡ Some x → length q.lapics ≡ length b.lapics → (r : Part) → nat_eq p (place r) ≡ true → part_in (parts_of (with_copy p x q)) r ≡ part_in (all_parts b) r
  copy_is p x is row r same = subst (λ r. part_in (parts_of (with_copy p x q)) r ≡ part_in (all_parts b) r) (named_at p r same) (copied_value p x is row)

  copy_row : (p : ℕ) (x : Slot) → slice_get (slots_of b) p ≡ Some x → length (with_copy p x q).lapics ≡ length q.lapics
  copy_row zero x is = ap (λ s. length (with_copy 0 s q).lapics) (sym (some_is (registry_slot b) x is))
  copy_row (suc zero) x is = ap (λ s. length (with_copy 1 s q).lapics) (sym (some_is (slots.Counters b.counters) x is))
  copy_row (suc (suc zero)) x is = ap (λ s. length (with_copy 2 s q).lapics) (sym (some_is (slots.Tick b.tick) x is))
  copy_row (suc (suc (suc zero))) x is = ap (λ s. length (with_copy 3 s q).lapics) (sym (some_is (pic_slot b) x is))
  copy_row (suc (suc (suc (suc zero)))) x is = ap (λ s. length (with_copy 4 s q).lapics) (sym (some_is (ioapic_slot b) x is))
  copy_row (suc (suc (suc (suc (suc n))))) x is =
      let (a, slot, low) = apic_at b.lapics n x is in
      ap (λ s. length (with_copy (suc (suc (suc (suc (suc n))))) s q).lapics) slot ∙ length_set q.lapics (suc (suc (suc (suc (suc n)))) - 5) (Some a)

-- ---- pins

abbrev PicFits : Parts → Type 0
PicFits q = IfSome (chips_of q).pic (λ p. PairFits p.0 p.1)

abbrev ChipFits : Parts → Type 0
ChipFits q = IfSome (chips_of q).ioapic (λ p. IoapicFits p.0 p.1)

-- the pins of a copy are those that are held, and the pins of another chip stay
module _ (b : Board) (q : Parts) where
  copy_pic : (p : ℕ) (x : Slot) → slice_get (slots_of b) p ≡ Some x → (nat_eq p 3 ≡ false → PicFits q) → PicFits (with_copy p x q)
  copy_pic zero x is had = subst (λ s. PicFits (with_copy 0 s q)) (some_is (registry_slot b) x is) (had refl)
  copy_pic (suc zero) x is had = subst (λ s. PicFits (with_copy 1 s q)) (some_is (slots.Counters b.counters) x is) (had refl)
  copy_pic (suc (suc zero)) x is had = subst (λ s. PicFits (with_copy 2 s q)) (some_is (slots.Tick b.tick) x is) (had refl)
  copy_pic (suc (suc (suc zero))) x is had = subst (λ s. PicFits (with_copy 3 s q)) (some_is (pic_slot b) x is) (record { master = refl; slave = refl })
  copy_pic (suc (suc (suc (suc zero)))) x is had = subst (λ s. PicFits (with_copy 4 s q)) (some_is (ioapic_slot b) x is) (had refl)
  copy_pic (suc (suc (suc (suc (suc n))))) x is had = let (a, slot, low) = apic_at b.lapics n x is in subst (λ s. PicFits (with_copy (suc (suc (suc (suc (suc n))))) s q)) (sym slot) (had (let other : nat_eq (suc (suc (suc (suc (suc n))))) 3 ≡ false = grind (arith, nat_tests) in other))

  copy_ioapic : (p : ℕ) (x : Slot) → slice_get (slots_of b) p ≡ Some x → (nat_eq p 4 ≡ false → ChipFits q) → ChipFits (with_copy p x q)
  copy_ioapic zero x is had = subst (λ s. ChipFits (with_copy 0 s q)) (some_is (registry_slot b) x is) (had refl)
  copy_ioapic (suc zero) x is had = subst (λ s. ChipFits (with_copy 1 s q)) (some_is (slots.Counters b.counters) x is) (had refl)
  copy_ioapic (suc (suc zero)) x is had = subst (λ s. ChipFits (with_copy 2 s q)) (some_is (slots.Tick b.tick) x is) (had refl)
  copy_ioapic (suc (suc (suc zero))) x is had = subst (λ s. ChipFits (with_copy 3 s q)) (some_is (pic_slot b) x is) (had refl)
  copy_ioapic (suc (suc (suc (suc zero)))) x is had = subst (λ s. ChipFits (with_copy 4 s q)) (some_is (ioapic_slot b) x is) refl
  copy_ioapic (suc (suc (suc (suc (suc n))))) x is had = let (a, slot, low) = apic_at b.lapics n x is in subst (λ s. ChipFits (with_copy (suc (suc (suc (suc (suc n))))) s q)) (sym slot) (had (let other : nat_eq (suc (suc (suc (suc (suc n))))) 4 ≡ false = grind (arith, nat_tests) in other))

none_pic : (o : Option PicPart) → is_some (option_map pic_of o) ≡ false → IfSome {T = Pair × Holds} (option_map (λ (c : PicPart). (c.pair, c.levels)) o) (λ p. PairFits p.0 p.1)
none_pic None is = tt
none_pic (Some c) is = absurd (true≢false is)

none_ioapic : (o : Option IoPart) → is_some (option_map ioapic_of o) ≡ false → IfSome {T = Chip × Holds} (option_map (λ (c : IoPart). (c.ioapic, c.levels)) o) (λ p. IoapicFits p.0 p.1)
none_ioapic None is = tt
none_ioapic (Some c) is = absurd (true≢false is)

-- ---- all copies

-- a number that is not the first of a list
pub out_of_rest : (p k : ℕ) (ps : List ℕ) → nat_eq p k ≡ false → is_in k ps ≡ false → is_in k (p ∷ ps) ≡ false
out_of_rest p k ps other out = ap (λ t. elim t as (λ _. Bool) [ true ↦ true | false ↦ is_in k ps ]) other ∙ out

-- the parts of these places are copied, but for the rest of them
record AreCopiedBut (b : Board) (places rest : List ℕ) (q : Parts) : Type 0 where
  pub copied : (r : Part) → is_in (place r) places ≡ true → is_in (place r) rest ≡ false → part_in (parts_of q) r ≡ part_in (all_parts b) r
  pub none : (r : Part) → is_in (place r) places ≡ false → is_some (part_in (parts_of q) r) ≡ false
  pub pic : is_in 3 rest ≡ false → PicFits q
  pub ioapic : is_in 4 rest ≡ false → ChipFits q
  pub row : length q.lapics ≡ length b.lapics

module _ (b : Board) (places : List ℕ) (hs : List (Held Slot)) (there : (k : ℕ) → is_in k places ≡ true → (x : Slot) × (held_at k hs ≡ Some x) × (slice_get (slots_of b) k ≡ Some x)) where
  one_copied : (p : ℕ) (ps : List ℕ) (q : Parts) (x : Slot) → is_in p places ≡ true → slice_get (slots_of b) p ≡ Some x → AreCopiedBut b places (p ∷ ps) q → AreCopiedBut b places ps (with_copy p x q)
  one_copied p ps q x within is so_far = record {
    copied = copied;
    none = none;
    pic = λ out. copy_pic b q p x is (λ other. so_far.pic (out_of_rest p 3 ps other out));
    ioapic = λ out. copy_ioapic b q p x is (λ other. so_far.ioapic (out_of_rest p 4 ps other out));
    row = copy_row b q p x is ∙ so_far.row;
  }
    where
      copied : (r : Part) → is_in (place r) places ≡ true → is_in (place r) ps ≡ false → part_in (parts_of (with_copy p x q)) r ≡ part_in (all_parts b) r
      copied r among out = elim (eqb_tells p (place r)) [
        | inl e ↦ copy_is b q p x is so_far.row r e.0
        | inr e ↦ copy_leaves b q p x is r e.0 ∙ so_far.copied r among (out_of_rest p (place r) ps e.0 out)
      ]

      none : (r : Part) → is_in (place r) places ≡ false → is_some (part_in (parts_of (with_copy p x q)) r) ≡ false
      none r out = elim (eqb_tells p (place r)) [
        | inl e ↦ not_both (is_in p places) within (ap (λ k. is_in k places) e.1 ∙ out)
        | inr e ↦ ap is_some (copy_leaves b q p x is r e.0) ∙ so_far.none r out
      ]

  each_copied : (ps : List ℕ) (q : Parts) → ((k : ℕ) → is_in k ps ≡ true → is_in k places ≡ true) → AreCopiedBut b places ps q → AreCopiedBut b places [] (copied_each with_copy ps hs q)
  each_copied [] q among so_far = so_far
  each_copied (p ∷ ps) q among so_far =
      let (x, held, is) = there p (among p (in_first p ps)) in
      each_copied ps (copied_at with_copy p (held_at p hs) q) (λ k within. among k (in_more p k ps within))
      (subst (λ o. AreCopiedBut b places ps (copied_at with_copy p o q)) (sym held) (one_copied p ps q x (among p (in_first p ps)) is so_far))

  -- where nothing else was in hand, just copies are
  pub are_copies : (q : Parts) → ((r : Part) → is_some (part_in (parts_of q) r) ≡ false) → length q.lapics ≡ length b.lapics → AreCopies b places (copied_each with_copy places hs q)
  are_copies q none row =
      let all = each_copied places q (λ k within. within) (record {
        copied = λ r within out. not_both (is_in (place r) places) within out;
        none = λ r out. none r;
        pic = λ out. none_pic q.pic (none Pic);
        ioapic = λ out. none_ioapic q.ioapic (none Ioapic);
        row = row;
      }) in
      record {
        copied = λ r within. all.copied r within refl;
        none = all.none;
        pins = record { pic = all.pic refl; ioapic = all.ioapic refl };
        row = all.row;
      }
