use Rattle.std.proofs.Common.{◌≤◌, length}
use Rattle.transcript.proofs.Arrows.{IsAt}
use Rattle.transcript.proofs.arrow.at_arrow.Given as goal

abbrev pub invariant-loop-word : goal.invariant-loop-word
invariant-loop-word l = record {
  room : length l.left ≤ length l.tail;
  at : IsAt l.tail l.left;
}

abbrev pub decreases-loop-word : goal.decreases-loop-word
decreases-loop-word l = length l.left
