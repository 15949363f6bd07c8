-- Parts that fit a shape fit it without one of them too.
use Rattle.std.proofs.Common.{◌≡◌, ℕ, zero, suc, List, [], ◌∷◌, slice_set, length, refl, sym, ap, ◌∙◌, subst, None, IfSome}
use Rattle.std.specs.declared.option.Option.{Option}
use Rattle.lapic.specs.Registers.{LocalApic}
use Rattle.board_raise.specs.declared.parts.Parts.{Parts}
use Rattle.board_raise.specs.Fit.{Fits, LapicsFit}
use Rattle.board_raise.specs.InHand.{parts_of, chips_of}
use Rattle.board_raise.specs.OnRow.{Row, apic_in}
use Rattle.board_rows.specs.Lacking.{StillFits}

pub without_registry : (p : Parts) → StillFits p (record p { registry = None })
without_registry p numbers f = record { limits = f.limits; counters = f.counters; registrations = tt; tick = f.tick; lapics = record { places = f.lapics.places; numbers = f.lapics.numbers }; pins = f.pins }

pub without_counters : (p : Parts) → StillFits p (record p { counters = None })
without_counters p numbers f = record { limits = f.limits; counters = tt; registrations = f.registrations; tick = f.tick; lapics = record { places = f.lapics.places; numbers = f.lapics.numbers }; pins = f.pins }

pub without_tick : (p : Parts) → StillFits p (record p { tick = None })
without_tick p numbers f = record { limits = f.limits; counters = f.counters; registrations = f.registrations; tick = tt; lapics = record { places = f.lapics.places; numbers = f.lapics.numbers }; pins = f.pins }

pub without_pic : (p : Parts) → StillFits p (record p { pic = None })
without_pic p numbers f = record { limits = f.limits; counters = f.counters; registrations = f.registrations; tick = f.tick; lapics = record { places = f.lapics.places; numbers = f.lapics.numbers }; pins = record { pic = tt; ioapic = f.pins.ioapic } }

pub without_ioapic : (p : Parts) → StillFits p (record p { ioapic = None })
without_ioapic p numbers f = record { limits = f.limits; counters = f.counters; registrations = f.registrations; tick = f.tick; lapics = record { places = f.lapics.places; numbers = f.lapics.numbers }; pins = record { pic = f.pins.pic; ioapic = tt } }

places-without : (row : Row) (k : ℕ) → length (slice_set row k None) ≡ length row
places-without [] k = refl
places-without (x ∷ xs) zero = refl
places-without (x ∷ xs) (suc k) = ap suc (places-without xs k)

kept-without : (P : ℕ → LocalApic → Type 0) (row : Row) (k : ℕ) → ((n : ℕ) → IfSome (apic_in row n) (P n)) → (n : ℕ) → IfSome (apic_in (slice_set row k None) n) (P n)
kept-without P [] k all n = all n
kept-without P (x ∷ xs) zero all zero = tt
kept-without P (x ∷ xs) zero all (suc n) = all (suc n)
kept-without P (x ∷ xs) (suc k) all zero = all zero
kept-without P (x ∷ xs) (suc k) all (suc n) = kept-without (λ m. P (suc m)) xs k (λ m. all (suc m)) n

without_lapic : (p : Parts) (k : ℕ) → StillFits p (record p { lapics = slice_set p.lapics k None })
without_lapic p k numbers f = record {
  limits = f.limits;
  counters = f.counters;
  registrations = f.registrations;
  tick = f.tick;
  lapics = record {
    places = places-without p.lapics k ∙ f.lapics.places;
    numbers = kept-without (λ n a. a.number ≡ n) p.lapics k f.lapics.numbers;
  };
  pins = f.pins;
}

-- so it is of a row that was so written
pub without_apic : (p : Parts) (k : ℕ) (row : Row) → row ≡ slice_set p.lapics k None → StillFits p (record p { lapics = row })
without_apic p k row e = subst (λ (r : Row). StillFits p (record p { lapics = r })) (sym e) (without_lapic p k)
