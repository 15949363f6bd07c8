-- The first words of each kind, as lists (the format is this board's own)
use Rattle.std.specs.Prelude.{ℕ, List, Bool, false, get_or, option_map}
use Rattle.irq_base.specs.declared.event.Pin.TheVariants.{Pic, Ioapic}
use Rattle.irqfd_set.specs.declared.irqfds.Irqfd.{Irqfd}
use Rattle.irqfd_set.specs.Rows.{of_trigger}
use Rattle.route_table.specs.Rows.{Table, targets_of}
use Rattle.route_table.specs.Pins.{gsi_of}
use Rattle.route_table.specs.Words.{targets_word}
use Rattle.board_model.specs.Routing.{trigger_of}
use Rattle.board_model.specs.Published.{each_below, trigger_word, pin_word}

-- the words of the first n GSIs, these being marked
unfoldable pub gsi_words : Table → List Bool → ℕ → List ℕ
gsi_words table marks n = each_below n (λ gsi. targets_word (targets_of table gsi) (get_or marks gsi false))

-- the words of the first n triggers
unfoldable pub trigger_words : List Irqfd → ℕ → List ℕ
trigger_words irqfds n = each_below n (λ trigger. trigger_word (option_map trigger_of (of_trigger irqfds trigger)))

-- the words of the first n pins of the 8259A pair
unfoldable pub pic_words : Table → ℕ → List ℕ
pic_words table n = each_below n (λ number. pin_word (gsi_of table (Pic number)))

-- the words of the first n pins of the I/O APIC
unfoldable pub ioapic_words : Table → ℕ → List ℕ
ioapic_words table n = each_below n (λ number. pin_word (gsi_of table (Ioapic number)))
