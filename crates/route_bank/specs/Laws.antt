-- Where a registry's words stand among those that it publishes
use Rattle.std.specs.Prelude.{◌≡◌, ℕ, ◌<◌, Some, slice_get, option_map}
use Rattle.irq_base.specs.declared.event.Pin.{Pin}
use Rattle.irqfd_set.specs.Rows.{of_trigger}
use Rattle.route_table.specs.Rows.{targets_of}
use Rattle.route_table.specs.Pins.{gsi_of, IsPin}
use Rattle.route_table.specs.Words.{targets_word}
use Rattle.board_model.specs.Registry.{RegistryPart}
use Rattle.board_model.specs.Routing.{is_marked, trigger_of}
use Rattle.board_model.specs.Published.{published, trigger_word, pin_word}
use Rattle.route_bank.specs.Indices.{index_of_trigger, index_of_pin}

-- the word of each GSI, trigger and pin stands at its index
pub record WordsStand (registry : RegistryPart) (tick : ℕ) : Type 0 where
  pub gsis : (gsi : ℕ) → gsi < 4096 → slice_get (published registry tick) gsi
      ≡ Some (targets_word (targets_of registry.table gsi) (is_marked registry tick gsi))
  pub triggers : (trigger : ℕ) → trigger < 256 → slice_get (published registry tick) (index_of_trigger trigger)
      ≡ Some (trigger_word (option_map trigger_of (of_trigger registry.irqfds trigger)))
  pub pins : (pin : Pin) → IsPin pin → slice_get (published registry tick) (index_of_pin pin) ≡ Some (pin_word (gsi_of registry.table pin))

abbrev pub WordsStandAtIndices : Type 0
WordsStandAtIndices = (registry : RegistryPart) (tick : ℕ) → WordsStand registry tick
