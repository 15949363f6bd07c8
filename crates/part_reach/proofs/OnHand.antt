-- Copies in hand fit the shape of their board, and are what the pen holds of it.
use Rattle.std.proofs.Common.{◌≡◌, ℕ, zero, suc, replicate, Bool, true, false, true≢false, List, [], length, slice_get, is_some, Some, None, refl, sym, ap, ◌∙◌, subst}
use Rattle.std.specs.Prelude.{IfSome}
use Rattle.std.specs.declared.option.Option.{Option}
use Rattle.irq_base.specs.declared.shape.Part.{Part}
use Rattle.irq_base.specs.declared.shape.Part.TheVariants.{Registry, Counters, Tick, Pic, Ioapic, Lapic}
use Rattle.irq_base.specs.declared.shape.Shape.{Shape}
use Rattle.board_model.specs.Board.{Board, ValueOf}
use Rattle.lapic.specs.Registers.{LocalApic}
use Rattle.board_model.specs.Hand.{part_in, all_parts, flat}
use Rattle.board_raise.specs.declared.parts.Parts.{Parts}
use Rattle.board_raise.specs.Fit.{Fits}
use Rattle.board_raise.specs.InHand.{parts_of, chips_of}
use Rattle.board_step.specs.History.{opening}
use Rattle.board_step.specs.Publications.{words}
use Rattle.board_step.specs.Sound.{IsSound}
use Rattle.board_step.proofs.OpeningParts.{sound_fits}
use Rattle.turn_book.specs.Hands.{held_at}
use Rattle.turn_book.specs.Histories.{is_in}
use Rattle.turn_book.specs.Many.{HoldsJust}
use Rattle.turn_book.specs.Views.{IsLegal, HoldsRight}
use Rattle.turn_book.proofs.Lists.{has}
use Rattle.part_slots.specs.declared.slot.Slot.{Slot}
use Rattle.part_slots.specs.Slots.{place, part_at, slots_of}
use Rattle.part_slots.specs.Running.{Opens, IsStep}
use Rattle.part_slots.specs.Histories.{KeepsPart}
use Rattle.part_slots.specs.Commits.{Seen, IsHeld, HasInHand}
use Rattle.part_slots.proofs.Inverse.{part_back, place_back}
use Rattle.part_slots.proofs.Histories.{slots_keep_parts}
use Rattle.part_rig.specs.Rooms.{nothing, AreAt}
use Rattle.part_attempt.proofs.Standing.{right_is}
use Rattle.part_reach.specs.Copies.{AreCopies}

-- what holds of a board's part holds of what is in hand of it
if_in_hand : {A : Type 0} (P : A → Type 0) (t : Bool) (o all : Option A) → (t ≡ true → o ≡ all) → (t ≡ false → is_some o ≡ false) → IfSome all P → IfSome o P
if_in_hand P true o all same none holds = subst (λ x. IfSome x P) (sym (same refl)) holds
if_in_hand P false None all same none holds = tt
if_in_hand P false (Some x) all same none holds = absurd (true≢false (none refl))

-- copies of a board's parts fit its shape
pub copies_fit : (b : Board) (places : List ℕ) (q : Parts) → AreCopies b places q → IsSound b → Fits b.shape (parts_of q) (chips_of q)
copies_fit b places q copies sound = record {
  limits = all.limits;
  counters = if_in_hand _ (is_in 1 places) (parts_of q).counters (all_parts b).counters (copies.copied Counters) (copies.none Counters) all.counters;
  registrations = if_in_hand _ (is_in 0 places) (parts_of q).registry (all_parts b).registry (copies.copied Registry) (copies.none Registry) all.registrations;
  tick = if_in_hand _ (is_in 2 places) (parts_of q).tick (all_parts b).tick (copies.copied Tick) (copies.none Tick) all.tick;
  lapics = record {
    places = copies.row ∙ sound.lapics.places;
    numbers = λ n. if_in_hand (λ apic. apic.number ≡ n) (is_in (place (Lapic n)) places) (part_in (parts_of q) (Lapic n)) (part_in (all_parts b) (Lapic n)) (copies.copied (Lapic n)) (copies.none (Lapic n)) (all.lapics.numbers n);
  };
  pins = copies.pins;
}
  where
    all : Fits b.shape (all_parts b) (chips_of q)
    all = sound_fits b (chips_of q) sound copies.pins

-- ---- what a pen holds

module _ (shape : Shape) (v : Seen) (begins : v.begin ≡ Some (opening shape)) (legal : IsLegal Opens IsStep v) (right : HoldsRight slots_of v) (places : List ℕ) (just : HoldsJust places v.held) where
  -- each of these places is held with the board's slot
  pub slot_there : (k : ℕ) → is_in k places ≡ true → (x : Slot) × (held_at k v.held ≡ Some x) × (slice_get (slots_of legal.1) k ≡ Some x)
  slot_there k within = let (x, held) = has (held_at k v.held) (just k ∙ within) in (x, held, right_is shape v begins legal right k x held)

  module _ (q : Parts) (copies : AreCopies legal.1 places q) where
    held_here : (p : Part) (x : ValueOf p) → part_in (parts_of q) p ≡ Some x → (t : Bool) → is_in (place p) places ≡ t → IsHeld v p x
    held_here p x there false out = absurd (true≢false (sym (ap is_some there) ∙ copies.none p out))
    held_here p x there true within =
        let (slot, held, is) = slot_there (place p) within in
        let keeps = subst (λ r. KeepsPart legal.1 r slot) (part_back p) (slots_keep_parts legal.1 (place p) slot is) in
        record { slot = slot; held = held; keeps = keeps.same ∙ sym (copies.copied p within) ∙ there }

    -- so the copies are what the pen has in hand of the board that its list leaves
    pub has_in_hand : (known : List ℕ) → IfSome v.now (λ b. words b ≡ known) → HasInHand shape known (parts_of q) v
    has_in_hand known told = record {
      begins = begins;
      legal = legal;
      right = right;
      copies = λ p x there. held_here p x there (is_in (place p) places) refl;
      told = told;
    }

    -- a part that is not there is none of these places
    pub none_held : (p : Part) → part_in (parts_of q) p ≡ None → is_in (place p) places ≡ false
    none_held p lacking = by (is_in (place p) places) refl
      where
        by : (t : Bool) → is_in (place p) places ≡ t → t ≡ false
        by false is = refl
        by true is =
            let (slot, held, there) = slot_there (place p) is in
            let keeps = subst (λ r. KeepsPart legal.1 r slot) (part_back p) (slots_keep_parts legal.1 (place p) slot there) in
            sym keeps.there ∙ ap is_some (keeps.same ∙ sym (copies.copied p is) ∙ lacking)

    -- and each of these places has its part in hand
    pub in_hand : (k : ℕ) → is_in k places ≡ true → is_some (part_in (parts_of q) (part_at k)) ≡ true
    in_hand k within =
        let (slot, held, there) = slot_there k within in
        let keeps = slots_keep_parts legal.1 k slot there in
        ap is_some (copies.copied (part_at k) (ap (λ j. is_in j places) (place_back k) ∙ within) ∙ sym keeps.same) ∙ keeps.there

-- ---- nothing in hand

none_in : (n : ℕ) (k : ℕ) → is_some (flat (slice_get (replicate {A = Option LocalApic} n None) k)) ≡ false
none_in zero k = refl
none_in (suc n) zero = refl
none_in (suc n) (suc k) = none_in n k

none_there : (n : ℕ) (p : Part) → is_some (part_in (parts_of (nothing n)) p) ≡ false
none_there n Registry = refl
none_there n Counters = refl
none_there n Tick = refl
none_there n Pic = refl
none_there n Ioapic = refl
none_there n (Lapic k) = none_in n k

pub nothing_in : (q : Parts) (n : ℕ) → q ≡ nothing n → (p : Part) → is_some (part_in (parts_of q) p) ≡ false
nothing_in q n is p = ap (λ (c : Parts). is_some (part_in (parts_of c) p)) is ∙ none_there n p

so_many : (n : ℕ) → length (replicate {A = Option LocalApic} n None) ≡ n
so_many zero = refl
so_many (suc n) = ap suc (so_many n)

pub nothing_row : (q : Parts) (n : ℕ) → q ≡ nothing n → length q.lapics ≡ n
nothing_row q n is = ap (λ (c : Parts). length c.lapics) is ∙ so_many n

-- nothing stands at no place
pub nothing_at : (q : Parts) → ((p : Part) → is_some (part_in (parts_of q) p) ≡ false) → AreAt [] q
nothing_at q none p out = none p
