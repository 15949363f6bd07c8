-- The words in which the routing of a board is published, in this board's own format: 4,096 words of GSIs, 256 of triggers,
-- 16 of the pins of the 8259A pair and 24 of those of the I/O APIC.
use Rattle.std.specs.Prelude.{◌≡◌, ℕ, ◌+◌, ◌*◌, ◌^◌, ◌<◌, zero, suc, nat_eq, nat_lt, if◌then◌else◌, List, [], ◌∷◌, ◌++◌, slice_index}
use Rattle.std.specs.Prelude.{All, IsTrue, Some, None}
use Rattle.std.specs.declared.option.Option.{Option}
use Rattle.irq_base.specs.declared.call.Row.{Row}
use Rattle.irq_base.specs.declared.event.Pin.{Pin}
use Rattle.irq_base.specs.declared.event.Pin.TheVariants.{Pic, Ioapic}
use Rattle.irqfd_set.specs.declared.irqfds.Irqfd.{Irqfd}
use Rattle.ack_notifiers.specs.declared.watches.Watch.{Watch}
use Rattle.route_table.specs.Rows.{Table, refusal_of, table_of, targets_of}
use Rattle.irq_bits.specs.Fields.{bits_of}
use Rattle.route_table.specs.Words.{is_route, targets_word, targets_in}
use Rattle.board_model.specs.declared.trigger.TriggerWord.{TriggerWord}
use Rattle.board_model.specs.Registry.{RegistryPart}
use Rattle.board_model.specs.Routing.{Routing, routing_of_registry}

-- ---- the word of a trigger

-- 0 for no irqfd; else bit 0 is set, bits 12 to 1 are the GSI, and bit 13 tells whether it has a resample counter
abbrev pub trigger_word : Option TriggerWord → ℕ
trigger_word None = 0
trigger_word (Some trigger) = 1 + trigger.gsi * 2 + (if trigger.resample then 2 ^ 13 else 0)

-- what a word tells of a trigger
abbrev pub trigger_in : ℕ → Option TriggerWord
trigger_in word =
    if nat_eq (bits_of word 0 0) 1 then Some (record {
      gsi = bits_of word 12 1;
      resample = nat_eq (bits_of word 13 13) 1;
    }) else None

-- ---- the word of a pin

-- 0 where no GSI has the pin, else the GSI and 1
abbrev pub pin_word : Option ℕ → ℕ
pin_word None = 0
pin_word (Some gsi) = gsi + 1

-- the GSI that the word of a pin tells
abbrev pub gsi_in : ℕ → Option ℕ
gsi_in zero = None
gsi_in (suc gsi) = Some gsi

-- ---- the list of all words

-- f of each number below n, in order
unfoldable pub each_below : ℕ → (ℕ → ℕ) → List ℕ
each_below zero f = []
each_below (suc n) f = each_below n f ++ f n ∷ []

-- the words of a routing: those of the GSIs, of the triggers, of the 8259A pins and of the I/O APIC pins
unfoldable pub words_of : Routing → List ℕ
words_of routing =
    each_below 4096 (λ gsi. targets_word (routing.targets gsi) (routing.marked gsi))
    ++ (each_below 256 (λ counter. trigger_word (routing.trigger counter))
    ++ (each_below 16 (λ pin. pin_word (routing.gsi_of (Pic pin))) ++ each_below 24 (λ pin. pin_word (routing.gsi_of (Ioapic pin)))))

-- what a board publishes: the words of its registry, ticks going to this GSI
abbrev pub published : RegistryPart → ℕ → List ℕ
published registry tick = words_of (routing_of_registry registry tick)

-- ---- the routing that words tell

-- the k-th of so many words from a place on, and 0 past them
abbrev pub word_at : List ℕ → ℕ → ℕ → ℕ → ℕ
word_at words place count k = if nat_lt k count then slice_index words (place + k) else 0

-- the word of a GSI, of a trigger and of a pin
abbrev pub gsi_word_at : List ℕ → ℕ → ℕ
gsi_word_at words gsi = word_at words 0 4096 gsi

abbrev pub trigger_word_at : List ℕ → ℕ → ℕ
trigger_word_at words counter = word_at words 4096 256 counter

abbrev pub pin_word_at : List ℕ → Pin → ℕ
pin_word_at words (Pic pin) = word_at words 4352 16 pin
pin_word_at words (Ioapic pin) = word_at words 4368 24 pin

-- the routing that WORDS words tell
abbrev pub routing_of_words : List ℕ → Routing
routing_of_words words = record {
  targets = λ gsi. (targets_in (gsi_word_at words gsi)).0;
  marked = λ gsi. (targets_in (gsi_word_at words gsi)).1;
  gsi_of = λ pin. gsi_in (pin_word_at words pin);
  trigger = λ counter. trigger_in (trigger_word_at words counter);
}

-- ---- a registry whose words tell its routing

-- the table is that of rows that keep the rules, and each message has a payload of 32 bits
pub record IsSoundTable (table : Table) : Type 0 where
  pub made : (rows : List Row) × (refusal_of rows ≡ None) × (table ≡ table_of rows)
  pub routes : (gsi : ℕ) → IsTrue (is_route (targets_of table gsi))

-- an irqfd names a trigger and a GSI that there can be
pub record IsSoundIrqfd (row : Irqfd) : Type 0 where
  pub trigger : row.trigger < 256
  pub gsi : row.gsi < 4096

-- the table keeps the rules, and irqfds, notifiers and ticks name GSIs that there are
pub record IsSoundRegistry (registry : RegistryPart) (tick : ℕ) : Type 0 where
  pub table : IsSoundTable registry.table
  pub irqfds : All IsSoundIrqfd registry.irqfds
  pub watches : All (λ (row : Watch). row.gsi < 4096) registry.watches
  pub ticks : tick < 4096
