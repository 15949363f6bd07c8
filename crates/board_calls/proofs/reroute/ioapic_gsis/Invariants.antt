use Rattle.std.proofs.Common.{◌≡◌, ℕ, ◌<◌, length, get_or, None}
use Rattle.irq_base.specs.declared.event.Pin.TheVariants.{Ioapic}
use Rattle.route_table.specs.Pins.{gsi_of}
use Rattle.board_calls.proofs.reroute.ioapic_gsis.Given as goal

-- there is a place for each pin, and those of the pins so far have their GSIs
abbrev pub invariant-loop-pin : goal.invariant-loop-pin
invariant-loop-pin l = (length l.gsis ≡ 24) × ((n : ℕ) → n < l.pin → get_or l.gsis n None ≡ gsi_of l.table (Ioapic n))
