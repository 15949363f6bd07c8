use Rattle.board_reach.proofs.Basics.{◌≡◌, ◌≤◌, false, is_ended}
use Rattle.board_reach.proofs.SeenNow.{any_below}
use Rattle.board_reach.proofs.acks.of_vector.Given as goal

-- no pin so far is one that is ended and reaches the part
abbrev pub invariant-loop-pin : goal.invariant-loop-pin
invariant-loop-pin l = (l.pin ≤ 24) × (any_below (is_ended l.seen l.vector l.part) l.pin ≡ false)
