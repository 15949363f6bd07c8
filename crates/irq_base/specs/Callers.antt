-- Who may ask what.
use Rattle.std.specs.Prelude.{Bool, true, false, not, ◌&&◌, nat_eq, nat_lt}
use Rattle.irq_base.specs.declared.call.Caller.{Caller}
use Rattle.irq_base.specs.declared.call.Caller.TheVariants.{Device, Cpu}
use Rattle.irq_base.specs.declared.call.Call.{Call}
use Rattle.irq_base.specs.declared.call.Call.TheVariants.{PortOut, PortIn, Store, Load, Ack, Inta, Eoi}
use Rattle.irq_base.specs.declared.shape.Shape.{Shape}
use Rattle.irq_base.specs.declared.limits.TheConstants.{MAX_DEVICES}

-- the calls that only a processor may ask
abbrev pub is_of_processor : Call → Bool
is_of_processor (PortOut port len value) = true
is_of_processor (PortIn port len) = true
is_of_processor (Store address len value) = true
is_of_processor (Load address len) = true
is_of_processor Ack = true
is_of_processor Inta = true
is_of_processor Eoi = true
is_of_processor _ = false

-- the callers of a board: devices below MAX_DEVICES and its processors
abbrev pub is_there : Caller → Shape → Bool
is_there (Device d) shape = nat_lt d MAX_DEVICES
is_there (Cpu n) shape = nat_lt n shape.cpus

-- a device below MAX_DEVICES or a processor of the board; the acknowledge cycle of the 8259A pair is for processor 0
abbrev pub is_allowed : Caller → Call → Shape → Bool
is_allowed (Device d) call shape = nat_lt d MAX_DEVICES && not (is_of_processor call)
is_allowed (Cpu n) Inta shape = nat_lt n shape.cpus && nat_eq n 0
is_allowed (Cpu n) call shape = nat_lt n shape.cpus
