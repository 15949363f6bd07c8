use Rattle.std.proofs.Common.{◌≡◌, ◌++◌, map, length, All}
use Rattle.std.specs.Vec.Iter.{into_iter_items, into_iter_len}
use Rattle.live_runs.specs.Made.{IsFresh}
use Rattle.live_runs.proofs.facing.faces_of.Given as goal

abbrev pub invariant-loop-pass : goal.invariant-loop-pass
invariant-loop-pass g l =
    (map (λ f. f.pass) l.faces.items ++ into_iter_items l.rest ≡ l.fn.passes.items)
    × All (λ f. f.stops.count ≡ 0) l.faces.items
    × All (IsFresh l.board) (into_iter_items l.rest)
    × (length (into_iter_items l.rest) ≡ into_iter_len l.rest)

abbrev pub decreases-loop-pass : goal.decreases-loop-pass
decreases-loop-pass g l = into_iter_len l.rest
