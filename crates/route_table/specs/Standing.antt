-- Words and pins that stand for rows, and one row more.
use Rattle.std.specs.Prelude.{◌≡◌, ℕ, ◌+◌, ◌^◌, Bool, true, false, not, ◌&&◌, ◌||◌, nat_eq, nat_lt, List, [], ◌∷◌, slice_index}
use Rattle.std.specs.Prelude.{slice_set, Some, None}
use Rattle.std.specs.Option.{option_or, is_some}
use Rattle.std.specs.declared.option.Option.{Option}
use Rattle.irq_base.specs.Refusals.{Reason}
use Rattle.irq_base.specs.declared.call.Row.{Row}
use Rattle.irq_base.specs.declared.message.MsiWord.{MsiWord}
use Rattle.irq_base.specs.declared.message.Targets.{Targets}
use Rattle.irq_base.specs.declared.refusal.Refusal.TheVariants.{NoGsi, BadRow, ChipTwice, Mixed, PinTwice, BadMsi}
use Rattle.route_table.specs.Words.{is_below, targets_word, targets_in}
use Rattle.route_table.specs.Rows.{gsi_in, pic_in, ioapic_in, msi_in, is_good_if, are_both, has_target, targets_by}
use Rattle.route_table.specs.Pins.{owner}

-- the targets that a row names
abbrev pub named_in : Row → Targets
named_in row = record { pic = pic_in row; ioapic = ioapic_in row; msi = msi_in row }

-- what was there, and what is named beside it
abbrev pub joined : Targets → Targets → Targets
joined there named =
    record {
      pic = option_or there.pic named.pic;
      ioapic = option_or there.ioapic named.ioapic;
      msi = option_or there.msi named.msi;
    }

-- where the word of a GSI sends it
abbrev pub route_at : List ℕ → ℕ → Targets
route_at words gsi = (targets_in (slice_index words gsi)).0

-- whether the pin, if there is one, has an owner
abbrev pub is_taken : List ℕ → Option ℕ → Bool
is_taken owners None = false
is_taken owners (Some n) = not (nat_eq (slice_index owners n) 0)

-- the pin, if there is one, is the GSI's
abbrev pub with_owner : List ℕ → Option ℕ → ℕ → List ℕ
with_owner owners None gsi = owners
with_owner owners (Some n) gsi = slice_set owners n (gsi + 1)

-- whether the payload, if there is a message, has 32 bits
abbrev pub fits_if : Option MsiWord → Bool
fits_if None = true
fits_if (Some m) = nat_lt m.payload (2 ^ 32)

-- what a row is refused for, by where its GSI goes before it and by whether its pin is taken
abbrev pub reasons_by : ℕ → Targets → Targets → Bool → List Reason
reasons_by gsi named there taken =
    (not (nat_lt gsi 4096), NoGsi)
    ∷ (not (is_below named.pic 16 && is_below named.ioapic 24), BadRow)
    ∷ (not (is_good_if named.msi), BadMsi)
    ∷ (are_both there.pic named.pic || are_both there.ioapic named.ioapic, ChipTwice)
    ∷ (is_some there.msi || (is_some named.msi && has_target there), Mixed)
    ∷ (taken, PinTwice)
    ∷ []

abbrev pub reasons_at : List ℕ → List ℕ → List ℕ → Row → List Reason
reasons_at words pics ioapics row =
    reasons_by (gsi_in row) (named_in row) (route_at words (gsi_in row)) (is_taken pics (pic_in row) || is_taken ioapics (ioapic_in row))

-- the word of a row's GSI once the row is added
abbrev pub word_with : List ℕ → Row → ℕ
word_with words row = targets_word (joined (route_at words (gsi_in row)) (named_in row)) false

-- words send each GSI where the rows do, each being the word of that route without a mark, and each pin is whose it is by the
-- rows
pub record Stands (words pics ioapics : List ℕ) (rows : List Row) : Type 0 where
  pub encoded : (gsi : ℕ) → slice_index words gsi ≡ targets_word (route_at words gsi) false
  pub routes : (gsi : ℕ) → route_at words gsi ≡ targets_by rows gsi
  pub pic_owners : (n : ℕ) → slice_index pics n ≡ owner pic_in n rows
  pub ioapic_owners : (n : ℕ) → slice_index ioapics n ≡ owner ioapic_in n rows
