-- The parts at power-on that the code makes; and what parts of a sound board fit.
use Rattle.board_step.proofs.Basics.{◌≡◌, ℕ, ◌+◌, ◌-◌, ◌<◌, zero, suc, List, [], ◌∷◌, ◌++◌, map, length, replicate, Some, None, refl, sym, ap, ◌∙◌, subst, arith, add-one, length-replicate, unwrap_or, Option, Shape, BoardRig, LocalApic, power_on, Board, flat, all_parts, published, parts_of, InLimits, Fits, PairFits, PinsFit, numbers_below, slice_get, slice_set, IfSome, length-map, map-append, pair_at_power_on, ioapic_at_power_on, without_pins, Pins, IoapicFits, IsSound, opening, IsWhole, board_of, IsKept, opening_row, OpensPic, OpensIoapic, OpensRig, empty}
use Rattle.board_step.proofs.Basics.pic
use Rattle.std.proofs.lemmas.List.{length-append}
use Rattle.board_raise.specs.declared.parts.IoPart as io
use Rattle.board_step.proofs.WholeParts.{parts_make_their_board, all_parts_are_whole}
use Rattle.board_step.proofs.SoundOpening.{apics_many, opening_is_sound}

-- ---- a board's parts fit

in_row : (apics : List LocalApic) (n : ℕ) → flat (slice_get (map (λ a. Some a) apics) n) ≡ slice_get apics n
in_row [] n = refl
in_row (a ∷ apics) zero = refl
in_row (a ∷ apics) (suc n) = in_row apics n

numbered : (o : Option LocalApic) (n : ℕ) → (unwrap_or o (power_on n)).number ≡ n → IfSome o (λ apic. apic.number ≡ n)
numbered None n is = tt
numbered (Some apic) n is = is

-- the parts of a sound board fit its shape
pub sound_fits : (b : Board) (chips : Pins) → IsSound b → PinsFit chips → Fits b.shape (all_parts b) chips
sound_fits b chips sound pins = record {
  limits = sound.limits;
  counters = sound.counts.number;
  registrations = sound.named;
  tick = (let p = sound.pending in let q = sound.calls in let r = sound.limits.calls in omega arith);
  lapics = record {
    places = length-map b.lapics (λ a. Some a) ∙ sound.lapics.places;
    numbers = λ n. subst (λ o. IfSome o (λ (apic : LocalApic). apic.number ≡ n)) (sym (in_row b.lapics n)) (numbered (slice_get b.lapics n) n (sound.lapics.numbers n));
  };
  pins = pins;
}

-- ---- the row of local APICs

-- a local APIC into the first empty place
put_first : (xs : List (Option LocalApic)) (left : ℕ) (x : Option LocalApic) → slice_set (xs ++ replicate (suc left) None) (length xs) x ≡ (xs ++ x ∷ []) ++ replicate left None
put_first [] left x = refl
put_first (y ∷ xs) left x = ap (λ rest. y ∷ rest) (put_first xs left x)

-- ---- the chips with pins

pub opens_pic : (part : pic.PicPart) → part.pair ≡ pair_at_power_on → part.levels ≡ empty → PairFits part.pair part.levels → OpensPic part
opens_pic part pair holds fits = record { opens = λ i. record { master = without_pins (pair i).master; slave = without_pins (pair i).slave; holds = holds i }; pins = fits }

pub opens_ioapic : (part : io.IoPart) → part.ioapic ≡ ioapic_at_power_on → part.levels ≡ empty → IoapicFits part.ioapic part.levels → OpensIoapic part
opens_ioapic part chip holds fits = record { opens = λ i. record { entries = (chip i).entries; selected = (chip i).selected; identity = (chip i).identity; holds = holds i }; pins = fits }

-- ---- the row after one processor more

pub row_next : (n cpus : ℕ) → n < cpus → slice_set (opening_row n (cpus - n)) n (Some (power_on n)) ≡ opening_row (n + 1) (cpus - (n + 1))
row_next n cpus low =
    let left = cpus - (n + 1) in
    let more : cpus - n ≡ suc left = omega (arith, low) in
    ap (λ k. slice_set (opening_row n k) n (Some (power_on n))) more
    ∙ ap (λ k. slice_set (opening_row n (suc left)) k (Some (power_on n))) (sym (length-map (map power_on (numbers_below n)) (λ a. Some a) ∙ apics_many n))
    ∙ put_first (map (λ a. Some a) (map power_on (numbers_below n))) left (Some (power_on n))
    ∙ ap (λ l. l ++ replicate left None) (sym (ap (map (λ a. Some a)) (map-append power_on (numbers_below n) (n ∷ [])) ∙ map-append (λ a. Some a) (map power_on (numbers_below n)) (power_on n ∷ [])))
    ∙ ap (λ k. opening_row k left) (sym (add-one n))

pub length-opening_row : (n left : ℕ) → length (opening_row n left) ≡ n + left
length-opening_row n left =
    omega (arith, (length-map (map power_on (numbers_below n)) (λ a. Some a) ∙ apics_many n), (length-append (map (λ a. Some a) (map power_on (numbers_below n))) (replicate left None)), (length-replicate left (let x : Option LocalApic = None in x)))

-- ---- the board at power-on

pub opened_is : (shape : Shape) (rig : BoardRig) → OpensRig shape rig → board_of shape (parts_of rig.parts) 0 0 ≡ opening shape
opened_is shape rig opens = ap (λ q. board_of shape q 0 0) opens.parts ∙ parts_make_their_board (opening shape)

pub opened_kept : (shape : Shape) (rig : BoardRig) → InLimits shape → OpensRig shape rig → IsKept (record { shape = shape; rig = rig; length = 0; publications = 0 })
opened_kept shape rig limits opens = record {
  whole = subst (IsWhole shape) (sym opens.parts) (all_parts_are_whole (opening shape) (apics_many shape.cpus));
  sound = subst IsSound (sym (opened_is shape rig opens)) (opening_is_sound shape limits);
  pins = opens.pins;
  words = (λ i. published (opens.words i) (opens.tick i)) ∙ ap (λ (b : Board). published b.registry shape.tick) (sym (opened_is shape rig opens));
}
