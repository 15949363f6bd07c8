-- What stands at a local APIC that is in hand, if it is.
use Rattle.std.specs.Prelude.{Bool, false, Some, None}
use Rattle.std.specs.FinSet as set
use Rattle.std.specs.declared.option.Option.{Option}
use Rattle.irq_bits.specs.Members.{Numbers}
use Rattle.lapic.specs.Registers.{LocalApic}

-- the vectors that are requested
abbrev pub requests_in : Option LocalApic → Numbers
requests_in None = set.empty
requests_in (Some apic) = apic.irr

-- whether an NMI is pending
abbrev pub nmi_in : Option LocalApic → Bool
nmi_in None = false
nmi_in (Some apic) = apic.nmi
