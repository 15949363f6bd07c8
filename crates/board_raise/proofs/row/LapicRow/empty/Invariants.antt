use Rattle.std.proofs.Common.{◌≡◌, replicate, None}
use Rattle.board_raise.proofs.row.LapicRow.empty.Given as goal

abbrev pub invariant-loop-place : goal.invariant-loop-place
invariant-loop-place l = l.places.items ≡ replicate l._place None
