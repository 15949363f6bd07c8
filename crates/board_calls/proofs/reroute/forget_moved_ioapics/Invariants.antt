use Rattle.std.proofs.Common.{◌≡◌}
use Rattle.board_raise.specs.Fit.{IoapicFits}
use Rattle.board_raise.specs.InHand.{ioapic_of}
use Rattle.board_calls.proofs.Holding.{kept_up_to}
use Rattle.board_calls.proofs.reroute.forget_moved_ioapics.Given as goal

-- the pins so far have lost their holds where their GSI moved
abbrev pub invariant-loop-pin : goal.invariant-loop-pin
invariant-loop-pin l =
    (ioapic_of l.part ≡ record (ioapic_of l.initial.part) { holds = kept_up_to l.before l.after l.pin l.initial.part.levels })
    × (IoapicFits l.initial.part.ioapic l.initial.part.levels → IoapicFits l.part.ioapic l.part.levels)
