-- A table of rows that keep the rules has just these rows, and the GSI of a pin is the one that has it.
use Rattle.std.proofs.Common.{◌≡◌, ℕ, ◌+◌, ◌-◌, Bool, true, false, nat_eq, if◌then◌else◌, cond, List, [], ◌∷◌, Some, None, refl, sym, ap, subst, ◌∙◌, arith, IsTrue}
use Rattle.std.proofs.lemmas.Bool.Decides.{nat_tests}
use Rattle.std.specs.FinMap as map
use Rattle.std.specs.List.{Contains, find}
use Rattle.irq_base.specs.declared.call.Row.{Row}
use Rattle.irq_base.specs.declared.call.Row.TheVariants as row
use Rattle.irq_base.specs.declared.event.Pin.{Pin}
use Rattle.irq_base.specs.declared.event.Pin.TheVariants.{Pic, Ioapic}
use Rattle.irq_base.specs.declared.message.MsiWord.{MsiWord}
use Rattle.route_table.specs.Rows.{gsi_in, pic_in, ioapic_in, msi_in, table_of, targets_of}
use Rattle.route_table.specs.Pins.{has_pin, gsi_of}
use Rattle.route_table.proofs.Sound.{Sound}
use Rattle.route_table.specs.Tables.{HasRow}
use Rattle.route_table.proofs.TableLaws.{given_by_rows, given_in_table, one_owner, gsi_found}
use Rattle.route_table.specs.Pins.{gsi_told}
use Rattle.route_table.proofs.Filled.{pic_target, ioapic_target}

-- ---- a row is what it says

pic_row : (r : Row) (gsi n : ℕ) → gsi_in r ≡ gsi → pic_in r ≡ Some n → r ≡ row.Pic gsi n
unfolding gsi_in pic_in
pic_row (row.Pic g k) gsi n e f = let same : k ≡ n = cc in λ i. row.Pic (e i) (same i)
pic_row (row.Ioapic g k) gsi n e f = cc
pic_row (row.Msi g a p) gsi n e f = cc

ioapic_row : (r : Row) (gsi n : ℕ) → gsi_in r ≡ gsi → ioapic_in r ≡ Some n → r ≡ row.Ioapic gsi n
unfolding gsi_in ioapic_in
ioapic_row (row.Pic g k) gsi n e f = cc
ioapic_row (row.Ioapic g k) gsi n e f = let same : k ≡ n = cc in λ i. row.Ioapic (e i) (same i)
ioapic_row (row.Msi g a p) gsi n e f = cc

msi_row : (r : Row) (gsi address payload : ℕ) → gsi_in r ≡ gsi → msi_in r ≡ Some (record { address = address; payload = payload }) → r ≡ row.Msi gsi address payload
unfolding gsi_in msi_in
msi_row (row.Pic g k) gsi address payload e f = cc
msi_row (row.Ioapic g k) gsi address payload e f = cc
msi_row (row.Msi g a p) gsi address payload e f =
    let same = message_of (record { address = a; payload = p }) (record { address = address; payload = payload }) f in
    λ i. row.Msi (e i) (same i).address (same i).payload
  where
    message_of : (m n : MsiWord) → Some m ≡ Some n → m ≡ n
    message_of m n e = cc

-- ---- rows and their table

pub row_in_table : (rows : List Row) → Sound rows → (r : Row) → Contains rows r → HasRow (table_of rows) r
unfolding gsi_in pic_in ioapic_in msi_in
row_in_table rows s (row.Pic gsi n) inside = given_in_table (λ t. t.pic) pic_in (λ _ _. refl) refl rows s s.pic (row.Pic gsi n) n inside refl
row_in_table rows s (row.Ioapic gsi n) inside = given_in_table (λ t. t.ioapic) ioapic_in (λ _ _. refl) refl rows s s.ioapic (row.Ioapic gsi n) n inside refl
row_in_table rows s (row.Msi gsi address payload) inside = given_in_table (λ t. t.msi) msi_in (λ _ _. refl) refl rows s s.msi (row.Msi gsi address payload) (record { address = address; payload = payload }) inside refl

pub row_of_table : (rows : List Row) (r : Row) → HasRow (table_of rows) r → Contains rows r
row_of_table rows (row.Pic gsi n) has =
    let found = given_by_rows (λ t. t.pic) pic_in (λ _ _. refl) refl rows gsi n has in
    subst (λ (r : Row). Contains rows r) (pic_row found.0 gsi n found.2 found.3) found.1
row_of_table rows (row.Ioapic gsi n) has =
    let found = given_by_rows (λ t. t.ioapic) ioapic_in (λ _ _. refl) refl rows gsi n has in
    subst (λ (r : Row). Contains rows r) (ioapic_row found.0 gsi n found.2 found.3) found.1
row_of_table rows (row.Msi gsi address payload) has =
    let found = given_by_rows (λ t. t.msi) msi_in (λ _ _. refl) refl rows gsi (record { address = address; payload = payload }) has in
    subst (λ (r : Row). Contains rows r) (msi_row found.0 gsi address payload found.2 found.3) found.1

-- ---- the GSI of a pin

find_passes : (p : ℕ → Bool) (xs : List ℕ) (g : ℕ) → find p xs ≡ Some g → p g ≡ true
find_passes p [] g e = cc
find_passes p (x ∷ xs) g e =
    elim (p x) as (λ b. p x ≡ b → cond b (Some x) (find p xs) ≡ Some g → p g ≡ true) [
      | true ↦ λ on found. let same : x ≡ g = cc in ap p (sym same) ∙ on
      | false ↦ λ _ rest. find_passes p xs g rest
    ] refl e

told_more : (g : ℕ) → gsi_told (g + 1) ≡ Some g
told_more g = let one : g + 1 - 1 ≡ g = omega arith in ap (λ b. if b then None else Some (g + 1 - 1)) (above g) ∙ ap Some one
  where
    above : (g : ℕ) → nat_eq (g + 1) 0 ≡ false
    above g = grind (arith, nat_tests)

pub pin_of_gsi : (rows : List Row) (pin : Pin) (gsi : ℕ) → gsi_of (table_of rows) pin ≡ Some gsi → IsTrue (has_pin pin (targets_of (table_of rows) gsi))
unfolding gsi_of
pin_of_gsi rows pin gsi e = find_passes (λ g. has_pin pin (targets_of (table_of rows) g)) (map.keys (table_of rows)) gsi e

pub gsi_of_pin : (rows : List Row) → Sound rows → (pin : Pin) (gsi : ℕ) → IsTrue (has_pin pin (targets_of (table_of rows) gsi)) → gsi_of (table_of rows) pin ≡ Some gsi
unfolding gsi_of
gsi_of_pin rows s (Pic n) gsi has =
    gsi_found (λ t. t.pic) pic_in (λ _ _. refl) refl pic_target rows s s.pic s.pic_owned n
    ∙ ap gsi_told (one_owner (λ t. t.pic) pic_in (λ _ _. refl) refl pic_target rows s.pic_owned n gsi has) ∙ told_more gsi
gsi_of_pin rows s (Ioapic n) gsi has =
    gsi_found (λ t. t.ioapic) ioapic_in (λ _ _. refl) refl ioapic_target rows s s.ioapic s.ioapic_owned n
    ∙ ap gsi_told (one_owner (λ t. t.ioapic) ioapic_in (λ _ _. refl) refl ioapic_target rows s.ioapic_owned n gsi has) ∙ told_more gsi
