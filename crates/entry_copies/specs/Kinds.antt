-- Kinds of calls, one function for each of which copies its calls.
use Rattle.std.specs.Prelude.{Bool, true, false}
use Rattle.irq_base.specs.declared.call.Call.{Call}
use Rattle.irq_base.specs.declared.call.Call.TheVariants.{Line, Msi, Write, Take, Assign, Deassign, Attach, Detach, Watch, Unwatch, Tick, TickMode}

-- lines, messages, counters and ticks
abbrev pub is_signal : Call → Bool
is_signal (Line gsi line high) = true
is_signal (Msi address payload) = true
is_signal (Write counter n) = true
is_signal (Take counter) = true
is_signal Tick = true
is_signal (TickMode reinject) = true
is_signal _ = false

-- irqfds, ioeventfds and acknowledge notifiers, made and ended
abbrev pub is_row_call : Call → Bool
is_row_call (Assign trigger gsi resample) = true
is_row_call (Deassign trigger gsi) = true
is_row_call (Attach space address len counter want) = true
is_row_call (Detach space address len counter want) = true
is_row_call (Watch counter gsi) = true
is_row_call (Unwatch counter gsi) = true
is_row_call _ = false
