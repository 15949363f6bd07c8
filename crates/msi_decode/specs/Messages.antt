-- The message that an address and a payload stand for (SDM volume 3, message address and message data register formats).
use Rattle.std.specs.Prelude.{ℕ, ◌+◌, ◌-◌, ◌/◌, ◌%◌, ◌^◌, ◌==◌, Bool, true, false, ◌&&◌, if◌then◌else◌, Some, None}
use Rattle.std.specs.declared.option.Option.{Option}
use Rattle.irq_bits.specs.Fields.{bits_of}
use Rattle.irq_bits.specs.Members.{is_set}
use Rattle.irq_base.specs.declared.message.Mode.{Mode}
use Rattle.irq_base.specs.declared.message.Mode.TheVariants.{Fixed, Lowest, Smi, Nmi, Init, ExtInt, Reserved}
use Rattle.irq_base.specs.declared.message.Message.{Message}

-- the delivery mode of a number; 011 and 110 are reserved
abbrev pub mode_of : ℕ → Mode
mode_of n =
    if n == 0 then Fixed else if n == 1 then Lowest else if n == 2 then Smi else if n == 4 then Nmi
    else if n == 5 then Init else if n == 7 then ExtInt else Reserved

-- the fields of the address: destination in bits 19 to 12, hint in bit 3, logical in bit 2
abbrev pub destination_in : ℕ → ℕ
destination_in address = bits_of address 19 12

abbrev pub hint_in : ℕ → Bool
hint_in address = is_set address 3

abbrev pub logical_in : ℕ → Bool
logical_in address = is_set address 2

-- the fields of the payload: vector in bits 7 to 0, mode in bits 10 to 8, level in bit 15; bit 14, which tells assert from
-- deassert, is not applied (this board's own rule)
abbrev pub vector_in : ℕ → ℕ
vector_in payload = bits_of payload 7 0

abbrev pub mode_in : ℕ → Mode
mode_in payload = mode_of (bits_of payload 10 8)

abbrev pub level_in : ℕ → Bool
level_in payload = is_set payload 15

-- a redirected message of mode Fixed goes to the processor of lowest priority
abbrev pub redirected : Bool → Mode → Mode
redirected true Fixed = Lowest
redirected _ mode = mode

-- an NMI is never level triggered
abbrev pub triggered : Mode → Bool → Bool
triggered Nmi level = false
triggered _ level = level

-- the message of the fields; hint and logical together redirect it
abbrev pub message_in : ℕ → ℕ → Message
message_in address payload = record {
  mode = redirected (hint_in address && logical_in address) (mode_in payload);
  logical = logical_in address;
  dest = destination_in address;
  vector = vector_in payload;
  level = triggered (mode_in payload) (level_in payload);
}

-- the message of an address and a payload, or none where address bits 63 to 20 are not FEEh
abbrev pub message_of : ℕ → ℕ → Option Message
message_of address payload = if bits_of address 63 20 == 0xfee then Some (message_in address payload) else None
