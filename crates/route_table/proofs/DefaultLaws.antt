-- The rows of a routing table at power-on keep the rules, as rules.
use Rattle.std.specs.Prelude.{◌≡◌, ℕ, [], ◌∷◌, ◌++◌, None, refl}
use Rattle.std.proofs.Common.{◌+◌, add-one, append-nil, append_assoc, sym, ap, ◌∙◌}
use Rattle.irq_base.specs.declared.call.Row.TheVariants.{Pic, Ioapic}
use Rattle.route_table.specs.Rows.{gsi_in, pic_in, ioapic_in, msi_in, reasons_after, refusal_of}
use Rattle.route_table.specs.Defaults.{pic_rows, ioapic_rows, default_rows}

pub default_rows-kept : refusal_of default_rows ≡ None
unfolding default_rows pic_rows ioapic_rows reasons_after gsi_in pic_in ioapic_in msi_in
default_rows-kept = refl

pub pic_rows-none : [] ≡ pic_rows 0
unfolding pic_rows
pic_rows-none = refl

pub pic_rows-more : (n : ℕ) → pic_rows n ++ Pic n n ∷ [] ≡ pic_rows (n + 1)
unfolding pic_rows
pic_rows-more n = ap pic_rows (sym (add-one n))

pub ioapic_rows-none : pic_rows 16 ≡ pic_rows 16 ++ ioapic_rows 0
unfolding ioapic_rows
ioapic_rows-none = sym (append-nil (pic_rows 16))

pub ioapic_rows-more : (n : ℕ) → (pic_rows 16 ++ ioapic_rows n) ++ Ioapic n n ∷ [] ≡ pic_rows 16 ++ ioapic_rows (n + 1)
unfolding ioapic_rows
ioapic_rows-more n = append_assoc (pic_rows 16) (ioapic_rows n) (Ioapic n n ∷ []) ∙ ap (λ m. pic_rows 16 ++ ioapic_rows m) (sym (add-one n))

pub default_rows-is : pic_rows 16 ++ ioapic_rows 24 ≡ default_rows
unfolding default_rows
default_rows-is = refl

pub ruleset default_row_rules = (pic_rows-none, pic_rows-more, ioapic_rows-none, ioapic_rows-more, default_rows-is)

pub ruleset default_rules = (default_rows-kept)
