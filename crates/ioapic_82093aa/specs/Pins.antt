-- The I/O APIC whole: accesses, pins, sends and acknowledges.
-- 82093AA data sheet, and SDM volume 3, level-triggered interrupts and EOI.
use Rattle.std.specs.Prelude.{◌≡◌, ℕ, ◌*◌, ◌/◌, ◌%◌, ◌^◌, Bool, false, not, ◌&&◌, ◌||◌, nat_eq, if◌then◌else◌, Some, None, map}
use Rattle.std.specs.Prelude.{replicate, slice_set}
use Rattle.std.specs.declared.option.Option.{Option}
use Rattle.std.specs.FinSet as set
use Rattle.irq_base.specs.declared.message.Message.{Message}
use Rattle.reg_table.specs.Rows.{resets}
use Rattle.ioapic_82093aa.specs.Entries.{entry_at_power_on, entry_in, low_word, high_word, low_written, high_written, message_of}
use Rattle.ioapic_82093aa.specs.Registers.{register_of, register_rows}
use Rattle.ioapic_82093aa.specs.declared.entry.Entry.{Entry}
use Rattle.ioapic_82093aa.specs.declared.ioapic.Ioapic.{Ioapic}
use Rattle.ioapic_82093aa.specs.declared.ioapic.Raise.{Raise}
use Rattle.ioapic_82093aa.specs.declared.ioapic.Raise.TheVariants.{Masked, Stood, Send}
use Rattle.ioapic_82093aa.specs.declared.registers.Register.{Register}
use Rattle.ioapic_82093aa.specs.declared.registers.Register.TheVariants.{Identity, Version, Arbitration, LowHalf, HighHalf, Reserved}

-- the I/O APIC at power-on: 24 masked entries, no pin high, all registers 0
abbrev pub ioapic_at_power_on : Ioapic
ioapic_at_power_on = record { entries = replicate 24 entry_at_power_on; high = set.empty; selected = 0; identity = 0 }

-- the entry of a pin
abbrev pub entry_at : Ioapic → ℕ → Entry
entry_at io pin = entry_in io.entries pin

abbrev pub with_entry_at : Ioapic → ℕ → Entry → Ioapic
with_entry_at io pin e = record io { entries = slice_set io.entries pin e }

-- ---- accesses

-- what a register reads: the identity in bits 27 to 24, also as the arbitration; version 11h with 24 entries; the halves of
-- the entries; all else 0
abbrev pub word_of_register : Ioapic → Register → ℕ
word_of_register io Identity = 2 ^ 24 * io.identity
word_of_register io Version = 0x00170011
word_of_register io Arbitration = 2 ^ 24 * io.identity
word_of_register io (LowHalf pin) = low_word (entry_at io pin)
word_of_register io (HighHalf pin) = high_word (entry_at io pin)
word_of_register io Reserved = 0

-- a read at an offset: 00h is the index (IOREGSEL), 10h the register that it selects (IOWIN), any other reads 0
abbrev pub read_from : Ioapic → ℕ → ℕ
read_from io offset =
    if nat_eq offset 0x00 then io.selected
    else if nat_eq offset 0x10 then word_of_register io (register_of io.selected)
    else 0

-- what is there after a write, and the pin whose entry was written
pub record Written : Type 0 where
  pub after : Ioapic
  pub pin : Option ℕ

-- a write of a register: the identity takes bits 27 to 24, an entry the half; no other register can be written
abbrev pub register_written : Ioapic → Register → ℕ → Written
register_written io Identity value = record { after = record io { identity = value / 2 ^ 24 % 2 ^ 4 }; pin = None }
register_written io (LowHalf pin) value = record { after = with_entry_at io pin (low_written (entry_at io pin) value); pin = Some pin }
register_written io (HighHalf pin) value = record { after = with_entry_at io pin (high_written (entry_at io pin) value); pin = Some pin }
register_written io _ value = record { after = io; pin = None }

-- a write at an offset: the index keeps the low eight bits
abbrev pub write_to : Ioapic → ℕ → ℕ → Written
write_to io offset value =
    if nat_eq offset 0x00 then record { after = record io { selected = value % 2 ^ 8 }; pin = None }
    else if nat_eq offset 0x10 then register_written io (register_of io.selected) value
    else record { after = io; pin = None }

-- what each register reads at power-on, once it is selected, is the value of its row
abbrev pub RegistersStartAsTold : Type 0
RegistersStartAsTold =
    map (λ row. read_from (write_to ioapic_at_power_on 0x00 row.offset).after 0x10) register_rows ≡ resets register_rows

-- ---- pins

-- a pin that becomes high
abbrev pub raised : Ioapic → ℕ → Ioapic
raised io pin = record io { high = set.insert io.high pin }

-- a pin that becomes low
abbrev pub lowered : Ioapic → ℕ → Ioapic
lowered io pin = record io { high = set.remove io.high pin }

-- whether a request of the pin stands already: a level-triggered one while remote IRR is set, an edge while the pin is high
abbrev pub stands : Ioapic → ℕ → Bool
stands io pin = if (entry_at io pin).level then (entry_at io pin).remote_irr else set.contains io.high pin

-- what a raise answers: masked, or stood, or the entry's message
abbrev pub raise_of : Ioapic → ℕ → Raise
raise_of io pin = if (entry_at io pin).masked then Masked else if stands io pin then Stood else Send (message_of (entry_at io pin))

-- the processors took a message of the pin: a level-triggered entry sets remote IRR
abbrev pub pin_accepted : Ioapic → ℕ → Ioapic
pin_accepted io pin =
    with_entry_at io pin (record (entry_at io pin) { remote_irr = (entry_at io pin).level || (entry_at io pin).remote_irr })

-- an end of interrupt clears remote IRR
abbrev pub pin_acked : Ioapic → ℕ → Ioapic
pin_acked io pin = with_entry_at io pin (record (entry_at io pin) { remote_irr = false })

-- whether the entry has that vector, masked or not
abbrev pub has_vector : Ioapic → ℕ → ℕ → Bool
has_vector io pin vector = nat_eq (entry_at io pin).vector vector

-- whether the pin is to be sent again: it is high, unmasked and level-triggered, and remote IRR is clear
abbrev pub is_due : Ioapic → ℕ → Bool
is_due io pin = set.contains io.high pin && (not (entry_at io pin).masked && ((entry_at io pin).level && not (entry_at io pin).remote_irr))

abbrev pub resend_of : Ioapic → ℕ → Option Message
resend_of io pin = if is_due io pin then Some (message_of (entry_at io pin)) else None
