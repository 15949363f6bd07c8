-- An entry of the table: four words of 32 bits (PCI Local Bus Specification 3.0, 6.8.2.6 to 6.8.2.9, MSI-X table entries).
use Rattle.std.specs.Prelude.{ℕ, ◌+◌, ◌*◌, ◌%◌, ◌^◌, Bool, nat_eq, if◌then◌else◌, Some, None}
use Rattle.std.specs.declared.option.Option.{Option}
use Rattle.irq_base.specs.declared.message.MsiWord.{MsiWord}
use Rattle.msix_function.specs.declared.entry.Entry.{Entry}
use Rattle.msix_function.specs.declared.entry.Word.{Word}
use Rattle.msix_function.specs.declared.entry.Word.TheVariants.{AddressLow, AddressHigh, Payload, Control}

-- an entry at power-on: masked, and else 0
abbrev pub entry_at_power_on : Entry
entry_at_power_on = record { address_low = 0; address_high = 0; payload = 0; control = 1 }

-- bit 0 of the control word masks the entry
abbrev pub is_masked : Entry → Bool
is_masked e = nat_eq (e.control % 2) 1

-- the message that a request of the entry sends
abbrev pub message_of : Entry → MsiWord
message_of e = record { address = e.address_high * 2 ^ 32 + e.address_low; payload = e.payload }

-- the word at an offset in the table, by its place in the 16 bytes of an entry
abbrev pub word_at : ℕ → Option Word
word_at offset =
    if nat_eq (offset % 16) 0 then Some AddressLow
    else if nat_eq (offset % 16) 4 then Some AddressHigh
    else if nat_eq (offset % 16) 8 then Some Payload
    else if nat_eq (offset % 16) 12 then Some Control
    else None

-- what a word of the entry reads; off the words, 0
abbrev pub word_in : Entry → Option Word → ℕ
word_in e (Some AddressLow) = e.address_low
word_in e (Some AddressHigh) = e.address_high
word_in e (Some Payload) = e.payload
word_in e (Some Control) = e.control
word_in e None = 0

-- the entry after a write of a word; off the words, nothing is written
abbrev pub with_word : Entry → Option Word → ℕ → Entry
with_word e (Some AddressLow) value = record e { address_low = value }
with_word e (Some AddressHigh) value = record e { address_high = value }
with_word e (Some Payload) value = record e { payload = value }
with_word e (Some Control) value = record e { control = value }
with_word e None value = e
