-- Where parts are cleared at all their places, nothing is in hand.
use Rattle.std.proofs.Common.{◌≡◌, ℕ, zero, suc, ◌+◌, ◌<◌, true, false, true≢false, nat_eq, List, [], ◌∷◌, length, replicate, slice_set, is_some, Some, None, refl, sym, ap, ◌∙◌, subst, arith}
use Rattle.std.specs.Prelude.{Bool, option_map}
use Rattle.std.specs.declared.option.Option.{Option}
use Rattle.std.proofs.lemmas.Bool.Decides.{nat_tests}
use Rattle.std.proofs.lemmas.List.{length-set}
use Rattle.irq_base.specs.declared.shape.Part.{Part}
use Rattle.irq_base.specs.declared.shape.Part.TheVariants.{Registry, Counters, Tick, Pic, Ioapic, Lapic}
use Rattle.irq_base.specs.declared.shape.Shape.{Shape}
use Rattle.board_model.specs.Hand.{part_in}
use Rattle.board_raise.specs.declared.parts.Parts.{Parts}
use Rattle.board_raise.specs.InHand.{parts_of}
use Rattle.board_raise.specs.OnRow.{Row, apic_in}
use Rattle.turn_book.specs.Histories.{is_in}
use Rattle.part_slots.specs.Slots.{place, part_at}
use Rattle.part_slots.proofs.Inverse.{place_back}
use Rattle.part_rig.specs.declared.workroom.Workroom.{Workroom}
use Rattle.part_rig.specs.Rooms.{AreAt, IsBare, IsRoomFor, nothing, without, cleared, cleared_each}
use Rattle.part_slots.specs.declared.numbers.TheConstants.{FIXED_PARTS}

-- ---- what is in hand without a part

left_in : (row : Row) (n k : ℕ) → is_some (apic_in (slice_set row n None) k) ≡ true → (nat_eq n k ≡ false) × (is_some (apic_in row k) ≡ true)
left_in [] n k e = absurd (true≢false (sym e))
left_in (a ∷ row) zero zero e = absurd (true≢false (sym e))
left_in (a ∷ row) zero (suc k) e = (grind (arith, nat_tests), e)
left_in (a ∷ row) (suc n) zero e = (grind (arith, nat_tests), e)
left_in (a ∷ row) (suc n) (suc k) e = let (apart, there) = left_in row n k e in ((let f : nat_eq (suc n) (suc k) ≡ false = grind (arith, nat_tests) in f), there)

shifted : (n k : ℕ) → nat_eq n k ≡ false → nat_eq (n + FIXED_PARTS) (k + FIXED_PARTS) ≡ false
shifted n k e = grind (arith, nat_tests)

below : (i k : ℕ) → i < FIXED_PARTS → nat_eq i (k + FIXED_PARTS) ≡ false
below i k low = grind (arith, nat_tests)

above : (n i : ℕ) → i < FIXED_PARTS → nat_eq (n + FIXED_PARTS) i ≡ false
above n i low = grind (arith, nat_tests)

left : (p r : Part) (q : Parts) → is_some (part_in (parts_of (without p q)) r) ≡ true → (nat_eq (place p) (place r) ≡ false) × (is_some (part_in (parts_of q) r) ≡ true)
left Registry Registry q e = absurd (true≢false (sym e))
left Registry Counters q e = (refl, e)
left Registry Tick q e = (refl, e)
left Registry Pic q e = (refl, e)
left Registry Ioapic q e = (refl, e)
left Registry (Lapic k) q e = (below 0 k (omega arith), e)
left Counters Registry q e = (refl, e)
left Counters Counters q e = absurd (true≢false (sym e))
left Counters Tick q e = (refl, e)
left Counters Pic q e = (refl, e)
left Counters Ioapic q e = (refl, e)
left Counters (Lapic k) q e = (below 1 k (omega arith), e)
left Tick Registry q e = (refl, e)
left Tick Counters q e = (refl, e)
left Tick Tick q e = absurd (true≢false (sym e))
left Tick Pic q e = (refl, e)
left Tick Ioapic q e = (refl, e)
left Tick (Lapic k) q e = (below 2 k (omega arith), e)
left Pic Registry q e = (refl, e)
left Pic Counters q e = (refl, e)
left Pic Tick q e = (refl, e)
left Pic Pic q e = absurd (true≢false (sym e))
left Pic Ioapic q e = (refl, e)
left Pic (Lapic k) q e = (below 3 k (omega arith), e)
left Ioapic Registry q e = (refl, e)
left Ioapic Counters q e = (refl, e)
left Ioapic Tick q e = (refl, e)
left Ioapic Pic q e = (refl, e)
left Ioapic Ioapic q e = absurd (true≢false (sym e))
left Ioapic (Lapic k) q e = (below 4 k (omega arith), e)
left (Lapic n) Registry q e = (above n 0 (omega arith), e)
left (Lapic n) Counters q e = (above n 1 (omega arith), e)
left (Lapic n) Tick q e = (above n 2 (omega arith), e)
left (Lapic n) Pic q e = (above n 3 (omega arith), e)
left (Lapic n) Ioapic q e = (above n 4 (omega arith), e)
left (Lapic n) (Lapic k) q e = let (apart, there) = left_in q.lapics n k e in (shifted n k apart, there)

cleared_parts : (p : Part) (room : Workroom) → (cleared p room).rig.parts ≡ without p room.rig.parts
cleared_parts Registry room = refl
cleared_parts Counters room = refl
cleared_parts Tick room = refl
cleared_parts Pic room = refl
cleared_parts Ioapic room = refl
cleared_parts (Lapic n) room = refl

by_test : {P : Type 0} (t : Bool) → (t ≡ true → P) → (t ≡ false → P) → P
by_test true f g = f refl
by_test false f g = g refl

-- without a part, no part is in hand but those of the other places
still_at : (k : ℕ) (ks : List ℕ) (q : Parts) → AreAt (k ∷ ks) q → AreAt ks (without (part_at k) q)
still_at k ks q at r out = by_test (is_some (part_in (parts_of (without (part_at k) q)) r)) there (λ e. e)
  where
    there : is_some (part_in (parts_of (without (part_at k) q)) r) ≡ true → is_some (part_in (parts_of (without (part_at k) q)) r) ≡ false
    there e =
        let (apart, held) = left (part_at k) r q e in
        let other : nat_eq k (place r) ≡ false = ap (λ i. nat_eq i (place r)) (sym (place_back k)) ∙ apart in
        absurd (true≢false (sym held ∙ at r (ap (λ b. elim b [ true ↦ true | false ↦ is_in (place r) ks ]) other ∙ out)))

-- ---- nothing in hand

none_there : {A : Type 0} (o : Option A) → is_some o ≡ false → o ≡ None
none_there None h = refl
none_there (Some x) h = absurd (true≢false h)

none_mapped : {A B : Type 0} (f : A → B) (o : Option A) → is_some (option_map f o) ≡ false → o ≡ None
none_mapped f None h = refl
none_mapped f (Some x) h = absurd (true≢false h)

none_in : (row : Row) → ((n : ℕ) → is_some (apic_in row n) ≡ false) → row ≡ replicate (length row) None
none_in [] h = refl
none_in (a ∷ row) h =
    let first = none_there a (h zero) in
    let others = none_in row (λ n. h (suc n)) in
    λ i. first i ∷ others i

nothing_left : (q : Parts) → IsBare q → q ≡ nothing (length q.lapics)
nothing_left q bare = λ i. record {
  registry = none_mapped _ q.registry (bare Registry) i;
  counters = none_there q.counters (bare Counters) i;
  tick = none_there q.tick (bare Tick) i;
  pic = none_mapped _ q.pic (bare Pic) i;
  ioapic = none_mapped _ q.ioapic (bare Ioapic) i;
  lapics = none_in q.lapics (λ n. bare (Lapic n)) i;
}

places_stay : (p : Part) (q : Parts) → length (without p q).lapics ≡ length q.lapics
places_stay Registry q = refl
places_stay Counters q = refl
places_stay Tick q = refl
places_stay Pic q = refl
places_stay Ioapic q = refl
places_stay (Lapic n) q = length-set q.lapics n None

pub row_stays : (k : ℕ) (room : Workroom) → length (cleared (part_at k) room).rig.parts.lapics ≡ length room.rig.parts.lapics
row_stays k room = ap (λ (q : Parts). length q.lapics) (cleared_parts (part_at k) room) ∙ places_stay (part_at k) room.rig.parts

pub all_bare : (ks : List ℕ) (room : Workroom) → AreAt ks room.rig.parts → IsBare (cleared_each ks room).rig.parts
all_bare [] room at = λ p. at p refl
all_bare (k ∷ ks) room at = all_bare ks (cleared (part_at k) room) (subst (AreAt ks) (sym (cleared_parts (part_at k) room)) (still_at k ks room.rig.parts at))

all_rows : (ks : List ℕ) (room : Workroom) → length (cleared_each ks room).rig.parts.lapics ≡ length room.rig.parts.lapics
all_rows [] room = refl
all_rows (k ∷ ks) room = all_rows ks (cleared (part_at k) room) ∙ row_stays k room

pub all_cleared : (ks : List ℕ) (room : Workroom) → AreAt ks room.rig.parts → (cleared_each ks room).rig.parts ≡ nothing (length room.rig.parts.lapics)
all_cleared ks room at = nothing_left (cleared_each ks room).rig.parts (all_bare ks room at) ∙ ap nothing (all_rows ks room)

-- ---- what stays

known_stays : (p : Part) (room : Workroom) → (cleared p room).rig.known ≡ room.rig.known
known_stays Registry room = refl
known_stays Counters room = refl
known_stays Tick room = refl
known_stays Pic room = refl
known_stays Ioapic room = refl
known_stays (Lapic n) room = refl

pub all_known : (ks : List ℕ) (room : Workroom) → (cleared_each ks room).rig.known ≡ room.rig.known
all_known [] room = refl
all_known (k ∷ ks) room = all_known ks (cleared (part_at k) room) ∙ known_stays (part_at k) room

room_stays : (p : Part) (shape : Shape) (room : Workroom) → IsRoomFor shape room → IsRoomFor shape (cleared p room)
room_stays Registry shape room has = record { registry = has.registry; counters = has.counters; places = has.places }
room_stays Counters shape room has = record { registry = has.registry; counters = has.counters; places = has.places }
room_stays Tick shape room has = record { registry = has.registry; counters = has.counters; places = has.places }
room_stays Pic shape room has = record { registry = has.registry; counters = has.counters; places = has.places }
room_stays Ioapic shape room has = record { registry = has.registry; counters = has.counters; places = has.places }
room_stays (Lapic n) shape room has = record { registry = has.registry; counters = has.counters; places = length-set room.rig.parts.lapics n None ∙ has.places }

pub rooms_stay : (ks : List ℕ) (shape : Shape) (room : Workroom) → IsRoomFor shape room → IsRoomFor shape (cleared_each ks room)
rooms_stay [] shape room has = has
rooms_stay (k ∷ ks) shape room has = rooms_stay ks shape (cleared (part_at k) room) (room_stays (part_at k) shape room has)
