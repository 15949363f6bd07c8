-- Holds of pins whose GSI moves (KVM_SET_GSI_ROUTING).
use Rattle.std.specs.Prelude.{◌≡◌, ℕ, not, List, get_or, None}
use Rattle.std.specs.declared.option.Option.{Option}
use Rattle.std.specs.FinSet as set
use Rattle.irq_base.specs.declared.event.Pin.TheVariants.{Pic, Ioapic}
use Rattle.source_levels.specs.Holds.{Hold, Holds, is_of}
use Rattle.route_table.specs.Rows.{Table}
use Rattle.route_table.specs.Pins.{gsi_of}
use Rattle.board_calls.specs.Registrations.{is_same_gsi}
use Rattle.board_calls.specs.declared.reroute.PinGsis.{PinGsis}

-- the GSI of each pin by a table, none for a pin that a chip does not have
pub record AreGsis (gsis : PinGsis) (table : Table) : Type 0 where
  pub pics : (n : ℕ) → get_or gsis.pics n None ≡ gsi_of table (Pic n)
  pub ioapics : (n : ℕ) → get_or gsis.ioapics n None ≡ gsi_of table (Ioapic n)

-- the holds but those of a pin
abbrev pub without_pin : Holds → ℕ → Holds
without_pin holds pin = set.retain holds (λ h. not (is_of pin h))

-- the holds of the pins whose GSI is the same by both lists, which have the GSI of each pin at its place
abbrev pub kept_by : List (Option ℕ) → List (Option ℕ) → Holds → Holds
kept_by before after holds = set.retain holds (λ (h : Hold). is_same_gsi (get_or before h.pin None) (get_or after h.pin None))
