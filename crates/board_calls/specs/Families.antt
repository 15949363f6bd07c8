-- The families of calls that have one function each.
use Rattle.std.specs.Prelude.{Bool, true, false}
use Rattle.irq_base.specs.declared.call.Call.{Call}
use Rattle.irq_base.specs.declared.call.Call.TheVariants.{Line, Msi, Write, Take, Assign, Deassign, Reroute, Attach, Detach, Watch}
use Rattle.irq_base.specs.declared.call.Call.TheVariants.{Unwatch, Tick, TickMode, PortOut, PortIn, Store, Load, Ack, Inta, Eoi}

-- lines, messages and counters
abbrev pub is_of_device : Call → Bool
is_of_device (Line gsi line high) = true
is_of_device (Msi address payload) = true
is_of_device (Write counter n) = true
is_of_device (Take counter) = true
is_of_device _ = false

-- irqfds, the routing table, ioeventfds and acknowledge notifiers
abbrev pub is_registration : Call → Bool
is_registration (Assign trigger gsi resample) = true
is_registration (Deassign trigger gsi) = true
is_registration (Reroute rows) = true
is_registration (Attach space address len counter want) = true
is_registration (Detach space address len counter want) = true
is_registration (Watch counter gsi) = true
is_registration (Unwatch counter gsi) = true
is_registration _ = false

-- those that tell no event: all but that of an irqfd which is made
abbrev pub is_quiet_registration : Call → Bool
is_quiet_registration (Assign trigger gsi resample) = false
is_quiet_registration call = is_registration call

-- ticks and their mode
abbrev pub is_of_ticks : Call → Bool
is_of_ticks Tick = true
is_of_ticks (TickMode reinject) = true
is_of_ticks _ = false

-- accesses of the guest
abbrev pub is_access : Call → Bool
is_access (PortOut port len value) = true
is_access (PortIn port len) = true
is_access (Store address len value) = true
is_access (Load address len) = true
is_access _ = false

-- what a processor asks of its interrupts
abbrev pub is_of_interrupts : Call → Bool
is_of_interrupts Ack = true
is_of_interrupts Inta = true
is_of_interrupts Eoi = true
is_of_interrupts _ = false
