-- Room for the copies of a board stays room for them.
use Rattle.std.proofs.Common.{◌≡◌, ℕ, zero, suc, ◌-◌, true, false, true≢false, nat_eq, List, [], ◌∷◌, length, slice_get, is_some, Some, None, refl, sym, ap, ◌∙◌, subst, arith}
use Rattle.std.specs.Prelude.{Bool, IfSome, option_map}
use Rattle.std.specs.declared.option.Option.{Option}
use Rattle.std.proofs.lemmas.List.{length-set}
use Rattle.irq_base.specs.declared.shape.Part.TheVariants.{Registry, Counters}
use Rattle.irq_base.specs.declared.shape.Shape.{Shape}
use Rattle.board_model.specs.Board.{Board}
use Rattle.board_raise.specs.declared.parts.RegistryPart.{RegistryPart}
use Rattle.board_raise.specs.InHand.{registry_of}
use Rattle.board_calls.specs.Done.{SameInHand, FitsButTick}
use Rattle.board_step.specs.Sound.{IsSound}
use Rattle.turn_book.specs.declared.view.Held.{Held}
use Rattle.turn_book.specs.Hands.{held_at}
use Rattle.turn_book.specs.Histories.{is_in}
use Rattle.turn_copies.specs.Copies.{copied_at, copied_each, HasRoom}
use Rattle.part_slots.specs.declared.slot.Slot.{Slot}
use Rattle.part_slots.specs.declared.slot.Slot.TheVariants as slots
use Rattle.part_slots.specs.Slots.{registry_slot, pic_slot, ioapic_slot, slots_of}
use Rattle.part_copies.specs.Copied.{IsLong, with_copy}
use Rattle.part_copies.proofs.Copied.{apic_at}
use Rattle.part_rig.specs.declared.workroom.Workroom.{Workroom}
use Rattle.part_rig.specs.Rooms.{IsRoomFor, HasRoomFor, or_spare, copied_in}
use Rattle.part_rig.specs.RoomStays.{room_stays}
use Rattle.part_rig.proofs.Telling.{some_is}
use Rattle.part_slots.specs.declared.numbers.TheConstants.{FIXED_PARTS}

-- ---- after a call

there_still : (old new spare : Option RegistryPart) → is_some (option_map registry_of new) ≡ is_some (option_map registry_of old) → is_some (or_spare old spare) ≡ true → is_some (or_spare new spare) ≡ true
there_still None None spare same there = there
there_still (Some r) None spare same there = absurd (true≢false (sym same))
there_still old (Some s) spare same there = refl

long_still : (old new spare : Option (List ℕ)) (n : ℕ) → is_some new ≡ is_some old → IfSome new (λ c. length c ≡ n) → option_map (λ (c : List ℕ). length c) (or_spare old spare) ≡ Some n → option_map (λ (c : List ℕ). length c) (or_spare new spare) ≡ Some n
long_still None None spare n same fits there = there
long_still (Some c) None spare n same fits there = absurd (true≢false (sym same))
long_still old (Some d) spare n same fits there = ap (λ k. Some k) fits

-- other parts, of which the same are in hand and which fit the shape
pub room_after : (shape : Shape) (old new : Workroom) → new.registry ≡ old.registry → new.counters ≡ old.counters → SameInHand old.rig.parts new.rig.parts → FitsButTick shape new.rig.parts → IsRoomFor shape old → IsRoomFor shape new
room_after shape old new registry counters same fits has = record {
  registry = ap (λ s. is_some (or_spare new.rig.parts.registry s)) registry ∙ there_still old.rig.parts.registry new.rig.parts.registry old.registry (same Registry) has.registry;
  counters = ap (λ s. option_map (λ (c : List ℕ). length c) (or_spare new.rig.parts.counters s)) counters ∙ long_still old.rig.parts.counters new.rig.parts.counters old.counters shape.counters (same Counters) fits.others.counters has.counters;
  places = fits.others.lapics.places;
}

-- ---- copies of a board's slots

counters_long : (o : Option (List ℕ)) (kept : List ℕ) (n : ℕ) → option_map (λ (c : List ℕ). length c) o ≡ Some n → length kept ≡ n → IsLong kept o
counters_long None kept n there is = cc
counters_long (Some c) kept n there is = some_is (length c) n there ∙ sym is

-- there is room for a copy of each slot of a board
pub room_for : (b : Board) (room : Workroom) → IsSound b → IsRoomFor b.shape room → (q : ℕ) (x : Slot) → slice_get (slots_of b) q ≡ Some x → HasRoomFor q x room
room_for b room sound has zero x is = subst (λ s. HasRoomFor 0 s room) (some_is (registry_slot b) x is) has.registry
room_for b room sound has (suc zero) x is =
    subst (λ s. HasRoomFor 1 s room) (some_is (slots.Counters b.counters) x is)
    (counters_long (or_spare room.rig.parts.counters room.counters) b.counters b.shape.counters has.counters sound.counts.number)
room_for b room sound has (suc (suc zero)) x is = subst (λ s. HasRoomFor 2 s room) (some_is (slots.Tick b.tick) x is) tt
room_for b room sound has (suc (suc (suc zero))) x is = subst (λ s. HasRoomFor 3 s room) (some_is (pic_slot b) x is) tt
room_for b room sound has (suc (suc (suc (suc zero)))) x is = subst (λ s. HasRoomFor 4 s room) (some_is (ioapic_slot b) x is) tt
room_for b room sound has (suc (suc (suc (suc (suc n))))) x is =
    let (a, slot, low) = apic_at b.lapics n x is in
    let places = has.places in
    let many = sound.lapics.places in
    let few = sound.limits.cpus in
    subst (λ s. HasRoomFor (suc (suc (suc (suc (suc n))))) s room) (sym slot) (omega (arith, low, places, many), omega (arith, low, many, few))

as_many : (o : Option (List ℕ)) (kept : List ℕ) (n : ℕ) → option_map (λ (c : List ℕ). length c) o ≡ Some n → IsLong kept o → length kept ≡ n
as_many None kept n there long = elim long [ ]
as_many (Some c) kept n there long = sym long ∙ some_is (length c) n there

-- a copy leaves the room for a board of the shape
copied_stays : (shape : Shape) (p : ℕ) (x : Slot) (room : Workroom) → HasRoomFor p x room → IsRoomFor shape room → IsRoomFor shape (copied_in p x room)
copied_stays shape p (slots.Registry home) room fits has = record { registry = refl; counters = has.counters; places = has.places }
copied_stays shape p (slots.Counters kept) room fits has = record {
  registry = has.registry;
  counters = ap (λ k. Some k) (as_many (or_spare room.rig.parts.counters room.counters) kept shape.counters has.counters fits);
  places = has.places;
}
copied_stays shape p (slots.Tick kept) room fits has = record { registry = has.registry; counters = has.counters; places = has.places }
copied_stays shape p (slots.Pic kept) room fits has = record { registry = has.registry; counters = has.counters; places = has.places }
copied_stays shape p (slots.Ioapic kept) room fits has = record { registry = has.registry; counters = has.counters; places = has.places }
copied_stays shape p (slots.Lapic kept) room fits has = record { registry = has.registry; counters = has.counters; places = length-set room.rig.parts.lapics (p - FIXED_PARTS) (Some kept) ∙ has.places }

-- so do copies of several parts
pub rooms_copied : (shape : Shape) (ps : List ℕ) (hs : List (Held Slot)) (room : Workroom) → HasRoom HasRoomFor ps hs room → IsRoomFor shape room → IsRoomFor shape (copied_each copied_in ps hs room)
rooms_copied shape [] hs room fits has = has
rooms_copied shape (p ∷ ps) hs room fits has =
    rooms_copied shape ps hs (copied_at copied_in p (held_at p hs) room) (others_fit (held_at p hs) refl) (stays (held_at p hs) refl)
  where
    own : is_in p (p ∷ ps) ≡ true
    own = let t : nat_eq p p ≡ true = grind arith in ap (λ b. elim b [ true ↦ true | false ↦ is_in p ps ]) t

    or_in : (b : Bool) (q : ℕ) → is_in q ps ≡ true → (elim b [ true ↦ true | false ↦ is_in q ps ]) ≡ true
    or_in true q e = refl
    or_in false q e = e

    others : (q : ℕ) → is_in q ps ≡ true → is_in q (p ∷ ps) ≡ true
    others q e = or_in (nat_eq p q) q e

    others_fit : (o : Option Slot) → held_at p hs ≡ o → HasRoom HasRoomFor ps hs (copied_at copied_in p o room)
    others_fit None is q x e h = fits q x (others q e) h
    others_fit (Some s) is q x e h = room_stays p q s x room (fits p s own is) (fits q x (others q e) h)

    stays : (o : Option Slot) → held_at p hs ≡ o → IsRoomFor shape (copied_at copied_in p o room)
    stays None is = has
    stays (Some s) is = copied_stays shape p s room (fits p s own is) has

-- the copies are those of the parts, and what is known stays
pub parts_copied : (ps : List ℕ) (hs : List (Held Slot)) (room : Workroom) → (copied_each copied_in ps hs room).rig.parts ≡ copied_each with_copy ps hs room.rig.parts
parts_copied [] hs room = refl
parts_copied (p ∷ ps) hs room = parts_copied ps hs (copied_at copied_in p (held_at p hs) room) ∙ ap (copied_each with_copy ps hs) (by (held_at p hs))
  where
    by : (o : Option Slot) → (copied_at copied_in p o room).rig.parts ≡ copied_at with_copy p o room.rig.parts
    by None = refl
    by (Some x) = refl

pub known_copied : (ps : List ℕ) (hs : List (Held Slot)) (room : Workroom) → (copied_each copied_in ps hs room).rig.known ≡ room.rig.known
known_copied [] hs room = refl
known_copied (p ∷ ps) hs room = known_copied ps hs (copied_at copied_in p (held_at p hs) room) ∙ by (held_at p hs)
  where
    by : (o : Option Slot) → (copied_at copied_in p o room).rig.known ≡ room.rig.known
    by None = refl
    by (Some x) = refl
