-- The rows so far.
use Rattle.std.proofs.Common.{◌≡◌, ◌++◌}
use Rattle.route_table.specs.Defaults.{pic_rows, ioapic_rows}
use Rattle.route_table.proofs.table.default_rows.Given as goal

abbrev pub invariant-pics : goal.invariant-pics
invariant-pics l = l.rows ≡ pic_rows l.pin

abbrev pub invariant-ioapics : goal.invariant-ioapics
invariant-ioapics l = l.rows ≡ pic_rows 16 ++ ioapic_rows l.pin
