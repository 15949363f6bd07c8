use Rattle.actors.proofs.Plays.{Plays}
use Rattle.actors.proofs.playing.play.Given as goal

abbrev pub invariant-loop-call : goal.invariant-loop-call
invariant-loop-call g l = Plays g.F.Face l.script l.fn.seat.face l.face l.kept l.progress l.left

abbrev pub decreases-loop-call : goal.decreases-loop-call
decreases-loop-call g l = l.left
