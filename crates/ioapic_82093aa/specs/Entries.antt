-- Redirection entries: their words, the writes of their halves, and the message of an entry.
-- 82093AA data sheet, I/O redirection table registers.
use Rattle.std.specs.Prelude.{◌≡◌, ℕ, ◌+◌, ◌*◌, ◌/◌, ◌%◌, ◌^◌, ◌<◌, Bool, true, false, not, ◌&&◌, nat_eq, if◌then◌else◌, List}
use Rattle.std.specs.Prelude.{slice_index_or}
use Rattle.std.specs.FinSet as set
use Rattle.irq_bits.specs.Members.{Numbers, is_set}
use Rattle.irq_base.specs.declared.message.Message.{Message}
use Rattle.irq_base.specs.declared.message.Mode.{Mode}
use Rattle.irq_base.specs.declared.message.Mode.TheVariants.{Fixed, Lowest, Smi, Nmi, Init, ExtInt, Reserved}
use Rattle.ioapic_82093aa.specs.declared.entry.Entry.{Entry}

-- an entry at power-on: masked, all else 0 or off
abbrev pub entry_at_power_on : Entry
entry_at_power_on = record {
  vector = 0;
  mode = 0;
  logical = false;
  active_low = false;
  remote_irr = false;
  level = false;
  masked = true;
  destination = 0;
}

-- the entry of a pin among those of all pins
abbrev pub entry_in : List Entry → ℕ → Entry
entry_in entries pin = slice_index_or entries pin entry_at_power_on

-- whether the entry of a pin has that vector
abbrev pub vector_is : List Entry → ℕ → ℕ → Bool
vector_is entries vector pin = nat_eq (entry_in entries pin).vector vector

-- the vector of each entry is in the set
abbrev pub AreIn : List Entry → Numbers → Type 0
AreIn entries vectors = (pin : ℕ) → pin < 24 → set.contains vectors (entry_in entries pin).vector ≡ true

-- ---- words

-- a bit of a word, by its place
abbrev pub bit : ℕ → Bool → ℕ
bit place on = if on then 2 ^ place else 0

-- the low half: vector in bits 7 to 0, mode in 10 to 8, logical 11, delivery status 12, which reads 0, polarity 13, which is
-- kept and not applied (both this board's own rule), remote IRR 14, trigger mode 15, mask 16
abbrev pub low_word : Entry → ℕ
low_word e = e.vector + 2 ^ 8 * e.mode + bit 11 e.logical + bit 13 e.active_low + bit 14 e.remote_irr + bit 15 e.level + bit 16 e.masked

-- the high half: destination in bits 31 to 24
abbrev pub high_word : Entry → ℕ
high_word e = 2 ^ 24 * e.destination

-- the entry that two words tell: the inverse of both halves
abbrev pub entry_of : ℕ → ℕ → Entry
entry_of low high = record {
  vector = low % 2 ^ 8;
  mode = low / 2 ^ 8 % 2 ^ 3;
  logical = is_set low 11;
  active_low = is_set low 13;
  remote_irr = is_set low 14;
  level = is_set low 15;
  masked = is_set low 16;
  destination = high / 2 ^ 24;
}

-- ---- writes

-- a write that leaves the entry edge-triggered clears remote IRR (this board's own rule)
abbrev pub settled : Entry → Entry
settled e = record e { remote_irr = e.remote_irr && e.level }

-- a write of the low half: what the word tells, but for remote IRR, which cannot be written, and the other half
abbrev pub low_written : Entry → ℕ → Entry
low_written e value = settled (record (entry_of value 0) { remote_irr = e.remote_irr; destination = e.destination })

-- a write of the high half: the destination that the word tells
abbrev pub high_written : Entry → ℕ → Entry
high_written e value = settled (record e { destination = (entry_of 0 value).destination })

-- ---- messages

-- the delivery mode of its three bits
abbrev pub mode_of : ℕ → Mode
mode_of bits =
    if nat_eq bits 0 then Fixed
    else if nat_eq bits 1 then Lowest
    else if nat_eq bits 2 then Smi
    else if nat_eq bits 4 then Nmi
    else if nat_eq bits 5 then Init
    else if nat_eq bits 7 then ExtInt
    else Reserved

-- the message of an entry: level where the entry is level-triggered and its mode is not NMI
abbrev pub message_of : Entry → Message
message_of e = record {
  mode = mode_of e.mode;
  logical = e.logical;
  dest = e.destination;
  vector = e.vector;
  level = e.level && not (nat_eq e.mode 4);
}

-- ---- the law of both words

-- an entry whose fields fit
pub record Fits (e : Entry) : Type 0 where
  pub vector : e.vector < 2 ^ 8
  pub mode : e.mode < 2 ^ 3
  pub destination : e.destination < 2 ^ 8

-- the words of an entry tell the entry
abbrev pub WordsTellTheEntry : Type 0
WordsTellTheEntry = (e : Entry) → Fits e → entry_of (low_word e) (high_word e) ≡ e
