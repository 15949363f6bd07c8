use Rattle.std.proofs.Common.{◌≡◌, drop}
use Rattle.replaying.specs.FileOrder.{first_stop}
use Rattle.replaying.proofs.running.first_stop.Given as goal

-- the actors of the lines so far were not stopped
abbrev pub invariant-actors : goal.invariant-actors
invariant-actors l = first_stop (drop l.k l.script.lines) l.stops ≡ first_stop l.script.lines l.stops
