-- How a local APIC takes a message, and the message that it sends itself (SDM volume 3, interrupt acceptance for fixed
-- interrupts, error handling, interrupt command register).
use Rattle.std.specs.Prelude.{ℕ, ◌^◌, ◌==◌, Bool, true, false, not, nat_lt, bit_or, if◌then◌else◌}
use Rattle.std.specs.FinSet as set
use Rattle.irq_bits.specs.Fields.{bits_of}
use Rattle.irq_bits.specs.Members.{Numbers, is_set}
use Rattle.irq_base.specs.declared.message.Mode.{Mode}
use Rattle.irq_base.specs.declared.message.Mode.TheVariants.{Fixed, Lowest, Smi, Nmi, Init, Startup, ExtInt, Reserved}
use Rattle.irq_base.specs.declared.message.Message.{Message}
use Rattle.irq_base.specs.declared.message.DestView.{DestView}
use Rattle.lapic.specs.declared.outcome.Accepted.{Accepted}
use Rattle.lapic.specs.declared.outcome.Accepted.TheVariants.{New, Stood, BadVector, Disabled}
use Rattle.lapic.specs.declared.outcome.Ipi.{Ipi}
use Rattle.lapic.specs.declared.outcome.Shorthand.{Shorthand}
use Rattle.lapic.specs.declared.outcome.Shorthand.TheVariants.{Field, OwnOnly, All, Others}
use Rattle.lapic.specs.Registers.{LocalApic, is_enabled}
use Rattle.lapic.specs.Priority.{ppr_of}

-- whether a message is a non-maskable interrupt
abbrev pub is_nmi : Mode → Bool
is_nmi Nmi = true
is_nmi _ = false

-- the modes of messages that a local APIC takes; that SMI, INIT, start-up and ExtINT messages are left out is this board's own
-- rule
abbrev pub is_taken : Mode → Bool
is_taken Fixed = true
is_taken Lowest = true
is_taken Nmi = true
is_taken _ = false

-- a vector is put into a set, or taken out of it
abbrev pub with_member : Numbers → ℕ → Bool → Numbers
with_member s n true = set.insert s n
with_member s n false = set.remove s n

-- the APIC with an error recorded for ESR, by the error's bit
abbrev pub with_error : LocalApic → ℕ → LocalApic
with_error a bit = record a { registers = record a.registers { errors = bit_or a.registers.errors (2 ^ bit) } }

-- the APIC with the request, TMR telling whether it is level triggered
abbrev pub with_request : LocalApic → Message → LocalApic
with_request a m = record a { irr = set.insert a.irr m.vector; tmr = with_member a.tmr m.vector m.level }

-- what is answered to a message of a mode that is taken: an NMI and a request are new or stand already; a vector is asked of
-- an enabled APIC alone, and one below 16 is illegal
abbrev pub answer_to : LocalApic → Message → Accepted
answer_to a m =
    if is_nmi m.mode then (if a.nmi then Stood else New)
    else if not (is_enabled a) then Disabled
    else if nat_lt m.vector 16 then BadVector
    else if set.contains a.irr m.vector then Stood
    else New

-- the APIC after a message: an NMI is pending whether enabled or not; an illegal vector is error bit 6, the only error that is
-- recorded (this board's own rule)
abbrev pub accepted : LocalApic → Message → LocalApic
accepted a m =
    if is_nmi m.mode then record a { nmi = true }
    else if not (is_enabled a) then a
    else if nat_lt m.vector 16 then with_error a 6
    else with_request a m

-- what a destination is compared with
abbrev pub dest_view : LocalApic → DestView
dest_view a = record { number = a.number; enabled = is_enabled a; ldr = a.registers.ldr; dfr = a.registers.dfr; ppr = ppr_of a }

-- the delivery mode that ICR names by a number
abbrev pub mode_of : ℕ → Mode
mode_of n =
    if n == 0 then Fixed else if n == 1 then Lowest else if n == 2 then Smi else if n == 4 then Nmi
    else if n == 5 then Init else if n == 6 then Startup else if n == 7 then ExtInt else Reserved

-- the destination shorthand that ICR names by a number
abbrev pub shorthand_of : ℕ → Shorthand
shorthand_of n = if n == 0 then Field else if n == 1 then OwnOnly else if n == 2 then All else Others

-- the message of ICR: vector in bits 7 to 0 of the low half, mode in bits 10 to 8, logical in bit 11, shorthand in bits 19
-- and 18; the destination in bits 31 to 24 of the high half
abbrev pub ipi_of : ℕ → ℕ → Ipi
ipi_of low high = record {
  message = record {
    mode = mode_of (bits_of low 10 8);
    logical = is_set low 11;
    dest = bits_of high 31 24;
    vector = bits_of low 7 0;
    level = false;
  };
  to = shorthand_of (bits_of low 19 18);
}
