-- The board of parts, and the parts of a board.
use Rattle.board_step.proofs.Basics.{◌≡◌, ℕ, ◌<◌, zero, suc, true, nat_lt, List, [], ◌∷◌, length, map, Some, refl, sym, ap, ◌∙◌, arith, unwrap_or, Option, Registry, Counters, Tick, Pic, Ioapic, Lapic, Part, LocalApic, power_on, in_mode, flat, part_in, all_parts, slice_get, is_some, opening_registry, opening_pic, opening_ioapic, is_part, BoardHasItsParts, PartsMakeTheirBoard, AllPartsAreWhole, WholePartsAreAll}

-- ---- one part

-- what is there is told
told : {A : Type 0} (o : Option A) (d : A) → is_some o ≡ true → Some (unwrap_or o d) ≡ o
told o d h1 = grind arith

-- what is there and agrees is the same
agreed : {A : Type 0} (o : Option A) (x : A) → is_some o ≡ true → ((v : A) → o ≡ Some v → Some x ≡ Some v) → o ≡ Some x
agreed o x h1 h2 = grind arith

-- ---- the row

-- each place of a row has its local APIC
abbrev IsFull : List (Option LocalApic) → Type 0
IsFull row = (n : ℕ) → n < length row → is_some (flat (slice_get row n)) ≡ true

rest_full : (place : Option LocalApic) (row : List (Option LocalApic)) → IsFull (place ∷ row) → IsFull row
rest_full place row full n low = full (suc n) (omega (arith, low))

row_told : (row : List (Option LocalApic)) → IsFull row → map (λ a. Some a) (map (λ place. unwrap_or place (power_on 0)) row) ≡ row
row_told [] full = refl
row_told (place ∷ row) full = λ i. told place (power_on 0) (full 0 (omega arith)) i ∷ row_told row (rest_full place row full) i

row_back : (apics : List LocalApic) → map (λ place. unwrap_or place (power_on 0)) (map (λ a. Some a) apics) ≡ apics
row_back [] = refl
row_back (a ∷ apics) = ap (λ rest. a ∷ rest) (row_back apics)

row_count : (apics : List LocalApic) → length (map (λ a. Some a) apics) ≡ length apics
row_count [] = refl
row_count (a ∷ apics) = ap suc (row_count apics)

row_full : (apics : List LocalApic) (n : ℕ) → n < length apics → is_some (flat (slice_get (map (λ a. Some a) apics) n)) ≡ true
row_full [] n low = absurd (omega (arith, low))
row_full (a ∷ apics) zero low = refl
row_full (a ∷ apics) (suc n) low = row_full apics n (omega (arith, low))

-- the local APICs that stand in a row are those of the board
abbrev Stand : List (Option LocalApic) → List LocalApic → Type 0
Stand row apics = (n : ℕ) (v : LocalApic) → flat (slice_get row n) ≡ Some v → flat (slice_get (map (λ a. Some a) apics) n) ≡ Some v

row_agreed : (row : List (Option LocalApic)) (apics : List LocalApic) → length row ≡ length apics → IsFull row → Stand row apics → row ≡ map (λ a. Some a) apics
row_agreed [] [] many full stand = refl
row_agreed [] (a ∷ apics) many full stand = absurd (omega (arith, many))
row_agreed (place ∷ row) [] many full stand = absurd (omega (arith, many))
row_agreed (place ∷ row) (a ∷ apics) many full stand = λ i.
    agreed place a (full 0 (omega arith)) (stand 0) i ∷ row_agreed row apics (omega (arith, many)) (rest_full place row full) (λ n v there. stand (suc n) v there) i

-- a place below the processors is a part
pub below_is : (n cpus : ℕ) → n < cpus → nat_lt n cpus ≡ true
below_is n cpus low = grind arith

below_of : (n cpus : ℕ) → nat_lt n cpus ≡ true → n < cpus
below_of n cpus low = grind arith

-- ---- the laws

pub board_has_its_parts : BoardHasItsParts
board_has_its_parts shape q calls publications whole = λ i. record {
  registry = told q.registry opening_registry (whole.each Registry refl) i;
  counters = told q.counters [] (whole.each Counters refl) i;
  tick = told q.tick (in_mode true) (whole.each Tick refl) i;
  pic = told q.pic opening_pic (whole.each Pic refl) i;
  ioapic = told q.ioapic opening_ioapic (whole.each Ioapic refl) i;
  lapics = row_told q.lapics (λ n low. whole.each (Lapic n) (below_is n shape.cpus (omega (arith, low, whole.places)))) i;
}

pub parts_make_their_board : PartsMakeTheirBoard
parts_make_their_board b = λ i. record b { lapics = row_back b.lapics i }

pub all_parts_are_whole : AllPartsAreWhole
all_parts_are_whole b many = record {
  places = row_count b.lapics ∙ many;
  each = each;
}
  where
    each : (p : Part) → is_part b.shape p ≡ true → is_some (part_in (all_parts b) p) ≡ true
    each (Lapic n) is = row_full b.lapics n (let low = below_of n b.shape.cpus is in omega (arith, low, many))
    each _ is = refl

pub whole_parts_are_all : WholePartsAreAll
whole_parts_are_all q b agrees many whole = λ i. record {
  registry = agreed q.registry b.registry (whole.each Registry refl) (agrees Registry) i;
  counters = agreed q.counters b.counters (whole.each Counters refl) (agrees Counters) i;
  tick = agreed q.tick b.tick (whole.each Tick refl) (agrees Tick) i;
  pic = agreed q.pic b.pic (whole.each Pic refl) (agrees Pic) i;
  ioapic = agreed q.ioapic b.ioapic (whole.each Ioapic refl) (agrees Ioapic) i;
  lapics = row_agreed q.lapics b.lapics (whole.places ∙ sym many) (λ n low. whole.each (Lapic n) (below_is n b.shape.cpus (omega (arith, low, whole.places)))) (λ n v there. agrees (Lapic n) v there) i;
}
