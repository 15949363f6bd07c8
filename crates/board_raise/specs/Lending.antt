-- A local APIC in a row is lent.
use Rattle.std.specs.Prelude.{ℕ, slice_set, Some}
use Rattle.std.specs.declared.option.Option.{Option}
use Rattle.std.specs.Borrow.{LendsIf, MutBor, Fml}
use Rattle.lapic.specs.Registers.{LocalApic}
use Rattle.lapic.specs.contracts.chip.Lapic.{the_row as lapic_row}
use Rattle.board_raise.specs.OnRow.{Row}
use Rattle.board_raise.specs.contracts.row.LapicRow.{the_row}

-- the row ends with what is left behind the reference at the processor's place, and stays where nothing is lent
abbrev pub LendsApic : MutBor Row → ℕ → Option (MutBor LocalApic) → Fml
LendsApic row n r = LendsIf the_row lapic_row row r (λ apic. slice_set row.now n (Some apic)) row.now
