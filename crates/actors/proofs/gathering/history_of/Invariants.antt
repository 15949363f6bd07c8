use Rattle.std.proofs.Common.{◌≡◌, ◌++◌, length}
use Rattle.std.specs.Vec.Iter.{into_iter_items, into_iter_len}
use Rattle.actors.specs.Kept.{placed_in}
use Rattle.actors.specs.Turns.{entries_in}
use Rattle.actors.proofs.gathering.history_of.Given as goal

abbrev pub invariant-loop-one : goal.invariant-loop-one
invariant-loop-one l =
    (l.history ++ entries_in (placed_in (into_iter_items l.rest)) ≡ entries_in (placed_in l.fn.placed.items))
    × (length (into_iter_items l.rest) ≡ into_iter_len l.rest)

abbrev pub decreases-loop-one : goal.decreases-loop-one
decreases-loop-one l = into_iter_len l.rest
