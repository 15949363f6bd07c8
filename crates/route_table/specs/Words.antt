-- The word of a GSI, in this board's own format.
use Rattle.std.specs.Prelude.{ℕ, ◌+◌, ◌*◌, ◌/◌, ◌%◌, ◌^◌, Bool, true, false, ◌&&◌, nat_eq, nat_lt, if◌then◌else◌, Some, None}
use Rattle.std.specs.declared.option.Option.{Option}
use Rattle.irq_bits.specs.Fields.{bits_of}
use Rattle.irq_base.specs.declared.message.MsiWord.{MsiWord}
use Rattle.irq_base.specs.declared.message.Targets.{Targets}

abbrev pub no_targets : Targets
no_targets = record { pic = None; ioapic = None; msi = None }

-- ---- where a GSI can go

-- whether the pin, if there is one, is below the count
abbrev pub is_below : Option ℕ → ℕ → Bool
is_below None count = true
is_below (Some n) count = nat_lt n count

-- whether a message has an address of messages, bits 63 to 20 being FEEh, and a payload of 32 bits
abbrev pub is_good : MsiWord → Bool
is_good m = nat_eq (m.address / 2 ^ 20) 0xfee && nat_lt m.payload (2 ^ 32)

abbrev pub is_none : Option ℕ → Bool
is_none None = true
is_none (Some n) = false

-- pins that the chips have, or a good message alone
abbrev pub is_route_of : Option ℕ → Option ℕ → Option MsiWord → Bool
is_route_of pic ioapic None = is_below pic 16 && is_below ioapic 24
is_route_of pic ioapic (Some m) = is_none pic && (is_none ioapic && is_good m)

abbrev pub is_route : Targets → Bool
is_route t = is_route_of t.pic t.ioapic t.msi

-- ---- the word

-- a pin: a bit that tells that it is there, and above it its number
abbrev pub pin_bits : Option ℕ → ℕ
pin_bits None = 0
pin_bits (Some n) = 1 + n * 2

-- bits 1 to 0: 0 no target, 1 pins, 2 a message. The 8259A pin from bit 2 on, the I/O APIC pin from bit 7 on; address bits
-- 19 to 0 from bit 2 on, the payload from bit 22 on
abbrev pub bits_of_targets : Option ℕ → Option ℕ → Option MsiWord → ℕ
bits_of_targets pic ioapic (Some m) = 2 + m.address % 2 ^ 20 * 2 ^ 2 + m.payload * 2 ^ 22
bits_of_targets None None None = 0
bits_of_targets pic ioapic None = 1 + pin_bits pic * 2 ^ 2 + pin_bits ioapic * 2 ^ 7

abbrev pub target_bits : Targets → ℕ
target_bits t = bits_of_targets t.pic t.ioapic t.msi

-- the word of targets; bit 63 is the mark
abbrev pub targets_word : Targets → Bool → ℕ
targets_word t marked = (if marked then 2 ^ 63 else 0) + target_bits t

-- ---- the targets of a word

-- a pin, where the bit tells that it is there
abbrev pub pin_named : ℕ → ℕ → Option ℕ
pin_named there number = if nat_eq there 1 then Some number else None

-- the pins that the fields of a word name
abbrev pub pins_in : ℕ → Targets
pins_in word =
    record {
      pic = pin_named (bits_of word 2 2) (bits_of word 6 3);
      ioapic = pin_named (bits_of word 7 7) (bits_of word 12 8);
      msi = None;
    }

-- the message that the fields of a word name; the other bits of its address are those of messages
abbrev pub message_in : ℕ → Targets
message_in word =
    record {
      pic = None;
      ioapic = None;
      msi = Some (record { address = 0xfee00000 + bits_of word 21 2; payload = bits_of word 53 22 });
    }

-- one of both, by the kind
abbrev pub of_kind : ℕ → Targets → Targets → Targets
of_kind kind pins message = if nat_eq kind 1 then pins else if nat_eq kind 2 then message else no_targets

-- the targets that the fields of a word name
abbrev pub named_by : ℕ → Targets
named_by word = of_kind (bits_of word 1 0) (pins_in word) (message_in word)

abbrev pub is_marked : ℕ → Bool
is_marked word = nat_eq (bits_of word 63 63) 1

-- whether the word is that of a route
abbrev pub is_word_of : ℕ → Targets → Bool → Bool
is_word_of word t m = is_route t && nat_eq (targets_word t m) word

-- the targets and the mark where the test holds, else no target and false
abbrev pub given_where : Bool → Targets → Bool → Targets × Bool
given_where true t m = (t, m)
given_where false t m = (no_targets, false)

-- where the GSI of a word goes, and whether it is marked: what its fields name where the word is that of a route, else no
-- target and false
unfoldable pub targets_in : ℕ → Targets × Bool
targets_in word = given_where (is_word_of word (named_by word) (is_marked word)) (named_by word) (is_marked word)
