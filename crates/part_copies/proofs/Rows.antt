-- Rows of local APICs as slots, and slots as a row.
use Rattle.std.proofs.Common.{◌≡◌, ℕ, zero, suc, ◌+◌, ◌<◌, ◌≤◌, List, [], ◌∷◌, ◌++◌, length, map, slice_get, slice_set, Some, None, refl, sym, ap, ◌∙◌, subst, arith}
use Rattle.std.specs.declared.option.Option.{Option}
use Rattle.std.proofs.lemmas.List.{append_assoc, append-nil}
use Rattle.lapic.specs.Registers.{LocalApic}
use Rattle.board_raise.specs.declared.parts.Parts.{Parts}
use Rattle.board_raise.specs.OnRow.{Row}
use Rattle.part_slots.specs.declared.slot.Slot.{Slot}
use Rattle.part_slots.specs.declared.slot.Slot.TheVariants as slots
use Rattle.part_copies.specs.Gathering.{listed, apic_slot, apic_slots, drained, with_slot, place_after, apics_in, gathered}

some_is : {A : Type 0} (x y : A) → Some x ≡ Some y → x ≡ y
some_is x y e = cc

one_more : (n : ℕ) → n + 1 ≡ suc n
one_more n = omega arith

-- ---- out of the row

pub length-drained : (n : ℕ) (row : Row) → length (drained n row) ≡ length row
length-drained zero row = refl
length-drained (suc n) [] = refl
length-drained (suc n) (place ∷ row) = ap suc (length-drained n row)

pub drained_at : (n : ℕ) (row : Row) → slice_get (drained n row) n ≡ slice_get row n
drained_at zero row = refl
drained_at (suc n) [] = refl
drained_at (suc n) (place ∷ row) = drained_at n row

drained_suc : (n : ℕ) (row : Row) → n < length row → slice_set (drained n row) n None ≡ drained (suc n) row
drained_suc zero [] low = absurd (omega (arith, low))
drained_suc zero (place ∷ row) low = refl
drained_suc (suc n) [] low = absurd (omega (arith, low))
drained_suc (suc n) (place ∷ row) low = ap (λ r. None ∷ r) (drained_suc n row (omega (arith, low)))

pub drained_next : (n : ℕ) (row : Row) → n < length row → slice_set (drained n row) n None ≡ drained (n + 1) row
drained_next n row low = drained_suc n row low ∙ ap (λ k. drained k row) (sym (one_more n))

slots_suc : (n : ℕ) (row : Row) (place : Option LocalApic) → slice_get row n ≡ Some place → apic_slots (suc n) row ≡ apic_slots n row ++ listed (apic_slot place)
slots_suc zero [] place is = cc
slots_suc zero (p ∷ row) place is = append-nil (listed (apic_slot p)) ∙ ap (λ x. listed (apic_slot x)) (some_is p place is)
slots_suc (suc n) [] place is = cc
slots_suc (suc n) (p ∷ row) place is =
    ap (λ l. listed (apic_slot p) ++ l) (slots_suc n row place is) ∙ sym (append_assoc (listed (apic_slot p)) (apic_slots n row) (listed (apic_slot place)))

pub slots_next : (n : ℕ) (row : Row) (place : Option LocalApic) → slice_get (drained n row) n ≡ Some place → apic_slots (n + 1) row ≡ apic_slots n row ++ listed (apic_slot place)
slots_next n row place is = ap (λ k. apic_slots k row) (one_more n) ∙ slots_suc n row place (sym (drained_at n row) ∙ is)

-- all local APICs of a full row
pub all_apics : (apics : List LocalApic) → apic_slots (length (map (λ a. Some a) apics)) (map (λ a. Some a) apics) ≡ map (λ a. slots.Lapic a) apics
all_apics [] = refl
all_apics (a ∷ apics) = ap (λ l. slots.Lapic a ∷ l) (all_apics apics)

-- ---- into the row

-- with these local APICs at its first places
abbrev over : List LocalApic → Row → Row
over [] row = row
over (a ∷ apics) [] = []
over (a ∷ apics) (place ∷ row) = Some a ∷ over apics row

-- with these local APICs from place n on
abbrev placed : ℕ → List LocalApic → Row → Row
placed zero apics row = over apics row
placed (suc n) apics [] = []
placed (suc n) apics (place ∷ row) = place ∷ placed n apics row

none_placed : (n : ℕ) (row : Row) → placed n [] row ≡ row
none_placed zero row = refl
none_placed (suc n) [] = refl
none_placed (suc n) (place ∷ row) = ap (λ r. place ∷ r) (none_placed n row)

placed_suc : (n : ℕ) (a : LocalApic) (apics : List LocalApic) (row : Row) → n < length row → placed (suc n) apics (slice_set row n (Some a)) ≡ placed n (a ∷ apics) row
placed_suc zero a apics [] low = absurd (omega (arith, low))
placed_suc zero a apics (place ∷ row) low = refl
placed_suc (suc n) a apics [] low = absurd (omega (arith, low))
placed_suc (suc n) a apics (place ∷ row) low = ap (λ r. place ∷ r) (placed_suc n a apics row (omega (arith, low)))

over_all : (apics : List LocalApic) (row : Row) → length row ≡ length apics → over apics row ≡ map (λ a. Some a) apics
over_all [] [] many = refl
over_all [] (place ∷ row) many = absurd (omega (arith, many))
over_all (a ∷ apics) [] many = absurd (omega (arith, many))
over_all (a ∷ apics) (place ∷ row) many = ap (λ r. Some a ∷ r) (over_all apics row (omega (arith, many)))

pub length-set_row : (row : Row) (n : ℕ) (place : Option LocalApic) → length (slice_set row n place) ≡ length row
length-set_row [] n place = refl
length-set_row (p ∷ row) zero place = refl
length-set_row (p ∷ row) (suc n) place = ap suc (length-set_row row n place)

gathered_apics : (apics : List LocalApic) (n : ℕ) (p : Parts) → n + length apics ≤ length p.lapics → gathered (map (λ a. slots.Lapic a) apics) n p ≡ record p { lapics = placed n apics p.lapics }
gathered_apics [] n p room = λ i. record p { lapics = sym (none_placed n p.lapics) i }
gathered_apics (a ∷ apics) n p room =
    gathered_apics apics (n + 1) (record p { lapics = slice_set p.lapics n (Some a) }) (omega (arith, room, length-set_row p.lapics n (Some a)))
    ∙ (λ i. record p { lapics = (ap (λ k. placed k apics (slice_set p.lapics n (Some a))) (one_more n) ∙ placed_suc n a apics p.lapics (omega (arith, room))) i })

-- a row of places is filled by as many local APICs
pub row_filled : (apics : List LocalApic) (p : Parts) → length p.lapics ≡ length apics → gathered (map (λ a. slots.Lapic a) apics) 0 p ≡ record p { lapics = map (λ a. Some a) apics }
row_filled apics p many = gathered_apics apics 0 p (omega (arith, many)) ∙ (λ i. record p { lapics = over_all apics p.lapics many i })

pub apics_many : (apics : List LocalApic) → apics_in (map (λ a. slots.Lapic a) apics) ≡ length apics
apics_many [] = refl
apics_many (a ∷ apics) = omega (arith, apics_many apics)

-- ---- one slot more

-- what is left to gather after the first slot
pub room_after : (s : Slot) (rest : List Slot) (n k : ℕ) (p : Parts) → n + apics_in (s ∷ rest) ≤ length p.lapics → length p.lapics ≤ k → (place_after s n + apics_in rest ≤ length (with_slot s n p).lapics) × (length (with_slot s n p).lapics ≤ k)
room_after (slots.Registry h) rest n k p room few = (room, few)
room_after (slots.Counters h) rest n k p room few = (room, few)
room_after (slots.Tick h) rest n k p room few = (room, few)
room_after (slots.Pic h) rest n k p room few = (room, few)
room_after (slots.Ioapic h) rest n k p room few = (room, few)
room_after (slots.Lapic a) rest n k p room few = (omega (arith, room, length-set_row p.lapics n (Some a)), omega (arith, few, length-set_row p.lapics n (Some a)))

-- there is room for the first slot
pub room_here : (s : Slot) (rest : List Slot) (n : ℕ) (p : Parts) → n + apics_in (s ∷ rest) ≤ length p.lapics → place_after s n ≤ length p.lapics
room_here (slots.Registry h) rest n p room = omega (arith, room)
room_here (slots.Counters h) rest n p room = omega (arith, room)
room_here (slots.Tick h) rest n p room = omega (arith, room)
room_here (slots.Pic h) rest n p room = omega (arith, room)
room_here (slots.Ioapic h) rest n p room = omega (arith, room)
room_here (slots.Lapic a) rest n p room = omega (arith, room)
