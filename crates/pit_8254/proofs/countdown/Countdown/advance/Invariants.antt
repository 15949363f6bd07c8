use Rattle.std.proofs.Common.{None}
use Rattle.face_asks.specs.Asks.{StopTold}
use Rattle.pit_8254.specs.Asks.{HasTicked}
use Rattle.pit_8254.proofs.Advancing.{HasGone}
use Rattle.pit_8254.proofs.countdown.Countdown.advance.Given as goal

abbrev pub invariant-loop-gap : goal.invariant-loop-gap
invariant-loop-gap g l = record {
  gone : HasGone l.clocks l.initial.self l.self l.left l.ticks;
  asked : HasTicked g.F.Face l.ticks None l.initial.face l.face l.initial.events.items l.events.items;
  stops : StopTold g.F.Face None l.initial.face l.face;
}

abbrev pub decreases-loop-gap : goal.decreases-loop-gap
decreases-loop-gap g l = l.left
