-- Whose a pin is.
use Rattle.std.specs.Prelude.{ℕ, ◌+◌, ◌-◌, ◌<◌, Bool, nat_eq, if◌then◌else◌, List, [], ◌∷◌, Some, None}
use Rattle.std.specs.List.{find}
use Rattle.std.specs.FinMap as map
use Rattle.std.specs.declared.option.Option.{Option}
use Rattle.irq_base.specs.declared.call.Row.{Row}
use Rattle.irq_base.specs.declared.event.Pin.{Pin}
use Rattle.irq_base.specs.declared.event.Pin.TheVariants.{Pic, Ioapic}
use Rattle.irq_base.specs.declared.message.Targets.{Targets}
use Rattle.route_table.specs.Rows.{Table, gsi_in, is_same, targets_of}

-- the pins that there are
abbrev pub IsPin : Pin → Type 0
IsPin (Pic n) = n < 16
IsPin (Ioapic n) = n < 24

-- whether the targets have the pin
abbrev pub has_pin : Pin → Targets → Bool
has_pin (Pic n) t = is_same t.pic (Some n)
has_pin (Ioapic n) t = is_same t.ioapic (Some n)

-- the GSI that has the pin, or none
unfoldable pub gsi_of : Table → Pin → Option ℕ
gsi_of table pin = find (λ gsi. has_pin pin (targets_of table gsi)) (map.keys table)

-- the word of a pin of a chip, f giving the pin that a row names there: 0 where no row names it, else the GSI of the first
-- that does, and 1
unfoldable pub owner : (Row → Option ℕ) → ℕ → List Row → ℕ
owner f n [] = 0
owner f n (row ∷ rows) = if is_same (f row) (Some n) then gsi_in row + 1 else owner f n rows

-- the GSI that the word of a pin tells
abbrev pub gsi_told : ℕ → Option ℕ
gsi_told v = if nat_eq v 0 then None else Some (v - 1)
