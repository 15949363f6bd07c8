-- Where the published words of a board stand: 4,096 words of GSIs, 256 of triggers, 16 of the pins of the 8259A pair and 24 of
-- those of the I/O APIC. The format is this board's own
use Rattle.std.specs.Prelude.{ℕ, ◌+◌, ◌<◌, List, [], All}
use Rattle.irq_base.specs.declared.event.Pin.{Pin}
use Rattle.irq_base.specs.declared.event.Pin.TheVariants.{Pic, Ioapic}
use Rattle.ack_notifiers.specs.declared.watches.Watch.{Watch}
use Rattle.irqfd_set.specs.declared.irqfds.Irqfd.{Irqfd}
use Rattle.route_table.specs.Rows.{Table}
use Rattle.board_model.specs.Registry.{RegistryPart}
use Rattle.board_model.specs.Published.{published, IsSoundIrqfd}

-- the index of a trigger's word; that of a GSI's is the GSI
abbrev pub index_of_trigger : ℕ → ℕ
index_of_trigger trigger = 4096 + trigger

-- the index of a pin's word
abbrev pub index_of_pin : Pin → ℕ
index_of_pin (Pic number) = 4352 + number
index_of_pin (Ioapic number) = 4368 + number

-- a registry with this table and these registrations, as far as words tell
abbrev pub registry_of : Table → List Irqfd → List Watch → RegistryPart
registry_of table irqfds watches = record { table = table; irqfds = irqfds; watches = watches; ioevents = [] }

-- the words that a board publishes with this table and these registrations, ticks going to this GSI
abbrev pub words_with : Table → List Irqfd → List Watch → ℕ → List ℕ
words_with table irqfds watches tick = published (registry_of table irqfds watches) tick

-- irqfds name triggers below 256 and GSIs below 4,096, and so do watches and ticks
pub record AreInRange (irqfds : List Irqfd) (watches : List Watch) (tick : ℕ) : Type 0 where
  pub of_irqfds : All IsSoundIrqfd irqfds
  pub of_watches : All (λ (row : Watch). row.gsi < 4096) watches
  pub of_ticks : tick < 4096
