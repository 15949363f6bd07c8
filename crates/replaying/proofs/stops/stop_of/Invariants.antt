use Rattle.std.proofs.Common.{◌≡◌, length}
use Rattle.replaying.specs.FileOrder.{stop_of}
use Rattle.replaying.proofs.stops.stop_of.Given as goal

-- the stops so far are of others
abbrev pub invariant-stops : goal.invariant-stops
invariant-stops l = stop_of l.caller l.rest ≡ stop_of l.caller l.stops

abbrev pub decreases-stops : goal.decreases-stops
decreases-stops l = length l.rest
