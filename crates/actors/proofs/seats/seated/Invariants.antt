use Rattle.std.proofs.Common.{◌≡◌, ◌++◌, length}
use Rattle.std.specs.Vec.Iter.{into_iter_items, into_iter_len}
use Rattle.actors.specs.Seats.{seats_from}
use Rattle.actors.proofs.seats.seated.Given as goal

abbrev pub invariant-loop-face : goal.invariant-loop-face
invariant-loop-face g l =
    (l.seats.items ++ seats_from (length l.seats.items) (into_iter_items l.rest) ≡ seats_from 0 l.fn.faces.items)
    × (length (into_iter_items l.rest) ≡ into_iter_len l.rest)

abbrev pub decreases-loop-face : goal.decreases-loop-face
decreases-loop-face g l = into_iter_len l.rest
