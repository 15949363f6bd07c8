-- Tick reinjection, this board's own rule after KVM's: a tick is pending from its fall to its acknowledge, and one that
-- falls is injected at once where the state is free, else it waits for an acknowledge.
use Rattle.std.specs.Prelude.{◌+◌, ◌-◌, Bool, true, false, not, ◌&&◌, ◌||◌, nat_lt, if◌then◌else◌}
use Rattle.irq_base.specs.declared.status.Status.{Status}
use Rattle.irq_base.specs.declared.status.Status.TheVariants.{Ignored}
use Rattle.tick_reinject.specs.declared.state.TickState.{TickState}

-- a mode from its start: nothing pending, and free
abbrev pub in_mode : Bool → TickState
in_mode reinject = record { reinjects = reinject; pending = 0; free = true }

-- a tick is injected at once where the state is free; without reinjection always
abbrev pub tick_injects : TickState → Bool
tick_injects s = not s.reinjects || s.free

-- under reinjection one more is pending
abbrev pub ticked : TickState → TickState
ticked s = if s.reinjects then record s { pending = s.pending + 1 } else s

-- an acknowledge injects again where ticks remain pending after it
abbrev pub ack_injects : TickState → Bool
ack_injects s = s.reinjects && nat_lt 1 s.pending

-- under reinjection an acknowledge makes the state free and takes one off, if any is pending
abbrev pub tick_acked : TickState → TickState
tick_acked s = if s.reinjects then record s { pending = s.pending - 1; free = true } else s

-- a signal that had no effect
abbrev pub is_ignored : Status → Bool
is_ignored (Ignored cause) = true
is_ignored status = false

-- after an injection under reinjection the state is free exactly where the status was Ignored
abbrev pub tick_injected : TickState → Status → TickState
tick_injected s status = if s.reinjects then record s { free = is_ignored status } else s
