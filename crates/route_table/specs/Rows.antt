-- The rows of a routing table (KVM_SET_GSI_ROUTING), the rules that they keep, which are this board's own, and the table that
-- they make.
use Rattle.std.specs.Prelude.{ℕ, ◌/◌, ◌^◌, zero, suc, Bool, true, false, not, ◌&&◌, ◌||◌, nat_eq, nat_lt, if◌then◌else◌, List, []}
use Rattle.std.specs.Prelude.{◌∷◌, ◌++◌, length, Some, None}
use Rattle.std.specs.List.{list_any}
use Rattle.std.specs.Option.{option_or, unwrap_or, is_some}
use Rattle.std.specs.FinMap as map
use Rattle.std.specs.Ordering.{nat_cmp}
use Rattle.std.specs.declared.option.Option.{Option}
use Rattle.irq_base.specs.Refusals.{Reason, first_of}
use Rattle.irq_base.specs.declared.call.Row.{Row}
use Rattle.irq_base.specs.declared.call.Row.TheVariants.{Pic, Ioapic, Msi}
use Rattle.irq_base.specs.declared.message.MsiWord.{MsiWord}
use Rattle.irq_base.specs.declared.message.Targets.{Targets}
use Rattle.irq_base.specs.declared.refusal.Refusal.{Refusal}
use Rattle.irq_base.specs.declared.refusal.Refusal.TheVariants.{NoGsi, BadRow, ChipTwice, Mixed, PinTwice, Full, BadMsi}
use Rattle.route_table.specs.Words.{no_targets, is_below}

-- ---- what a row says

-- its GSI
unfoldable pub gsi_in : Row → ℕ
gsi_in (Pic gsi pin) = gsi
gsi_in (Ioapic gsi pin) = gsi
gsi_in (Msi gsi address payload) = gsi

-- the 8259A pin that it names
unfoldable pub pic_in : Row → Option ℕ
pic_in (Pic gsi pin) = Some pin
pic_in _ = None

-- the I/O APIC pin that it names
unfoldable pub ioapic_in : Row → Option ℕ
ioapic_in (Ioapic gsi pin) = Some pin
ioapic_in _ = None

-- the message that it names
unfoldable pub msi_in : Row → Option MsiWord
msi_in (Msi gsi address payload) = Some (record { address = address; payload = payload })
msi_in _ = None

-- ---- the rules of rows

-- whether the row is of the GSI
abbrev pub is_of : ℕ → Row → Bool
is_of gsi row = nat_eq (gsi_in row) gsi

-- whether the address, if there is a message, is one of messages
abbrev pub is_good_if : Option MsiWord → Bool
is_good_if None = true
is_good_if (Some m) = nat_eq (m.address / 2 ^ 20) 0xfee

-- whether both are there
abbrev pub are_both : {A B : Type 0} → Option A → Option B → Bool
are_both a b = is_some a && is_some b

-- whether both are one pin
abbrev pub is_same : Option ℕ → Option ℕ → Bool
is_same (Some a) (Some b) = nat_eq a b
is_same _ _ = false

-- whether both rows name a pin of one chip
abbrev pub is_of_same_chip : Row → Row → Bool
is_of_same_chip row other = are_both (pic_in other) (pic_in row) || are_both (ioapic_in other) (ioapic_in row)

-- whether one of both rows names a message
abbrev pub has_message : Row → Row → Bool
has_message row other = is_some (msi_in other) || is_some (msi_in row)

-- whether both rows name one pin
abbrev pub is_same_pin : Row → Row → Bool
is_same_pin row other = is_same (pic_in other) (pic_in row) || is_same (ioapic_in other) (ioapic_in row)

-- what a row is refused for, in order, with the rows before it: a GSI of 4,096 or more; a pin that the chip does not have;
-- an address that is none of messages; an earlier row of this GSI for the same chip; an earlier row of this GSI where one
-- of the two is a message; an earlier row for this pin
abbrev pub row_reasons : List Row → Row → List Reason
row_reasons earlier row =
    (not (nat_lt (gsi_in row) 4096), NoGsi)
    ∷ (not (is_below (pic_in row) 16 && is_below (ioapic_in row) 24), BadRow)
    ∷ (not (is_good_if (msi_in row)), BadMsi)
    ∷ (list_any (λ other. is_of (gsi_in row) other && is_of_same_chip row other) earlier, ChipTwice)
    ∷ (list_any (λ other. is_of (gsi_in row) other && has_message row other) earlier, Mixed)
    ∷ (list_any (is_same_pin row) earlier, PinTwice)
    ∷ []

-- the reasons of rows, row by row
unfoldable pub reasons_after : List Row → List Row → List Reason
reasons_after earlier [] = []
reasons_after earlier (row ∷ rows) = row_reasons earlier row ++ reasons_after (earlier ++ row ∷ []) rows

-- why a list of rows is refused: more than 4,096 rows before all else, then the first reason of the first row that has one
abbrev pub refusal_of : List Row → Option Refusal
refusal_of rows = first_of ((nat_lt 4096 (length rows), Full) ∷ reasons_after [] rows)

-- ---- the table of rows

-- what the first row of the GSI that gives some gives
unfoldable pub first_given : {A : Type 0} → (Row → Option A) → ℕ → List Row → Option A
first_given f gsi [] = None
first_given f gsi (row ∷ rows) = option_or (if is_of gsi row then f row else None) (first_given f gsi rows)

-- where rows send a GSI
abbrev pub targets_by : List Row → ℕ → Targets
targets_by rows gsi =
    record { pic = first_given pic_in gsi rows; ioapic = first_given ioapic_in gsi rows; msi = first_given msi_in gsi rows }

-- whether there is a target
abbrev pub has_target : Targets → Bool
has_target t = is_some t.pic || (is_some t.ioapic || is_some t.msi)

-- a routing table: the GSIs that go somewhere, each with its targets
abbrev pub Table : Type 0
Table = map.FinMap nat_cmp Targets

-- the table of the GSIs below k that go somewhere
unfoldable pub table_below : ℕ → (ℕ → Targets) → Table
table_below zero f = map.empty
table_below (suc k) f = if has_target (f k) then map.insert (table_below k f) k (f k) else table_below k f

-- the table that rows make
unfoldable pub table_of : List Row → Table
table_of rows = table_below 4096 (targets_by rows)

-- where a table sends a GSI
unfoldable pub targets_of : Table → ℕ → Targets
targets_of table gsi = unwrap_or (map.get table gsi) no_targets
