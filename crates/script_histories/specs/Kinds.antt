-- Kinds of registrations, one function for each of which goes through its calls.
use Rattle.std.specs.Prelude.{Bool, true, false}
use Rattle.irq_base.specs.declared.call.Call.{Call}
use Rattle.irq_base.specs.declared.call.Call.TheVariants.{Assign, Deassign, Attach, Detach, Watch, Unwatch}

-- irqfds and acknowledge notifiers
abbrev pub is_of_irqfds : Call → Bool
is_of_irqfds (Assign trigger gsi resample) = true
is_of_irqfds (Deassign trigger gsi) = true
is_of_irqfds (Watch counter gsi) = true
is_of_irqfds (Unwatch counter gsi) = true
is_of_irqfds _ = false

-- ioeventfds
abbrev pub is_of_ioevents : Call → Bool
is_of_ioevents (Attach space address len counter want) = true
is_of_ioevents (Detach space address len counter want) = true
is_of_ioevents _ = false
