use Rattle.std.proofs.Common.{◌≡◌, ◌++◌, map, length}
use Rattle.std.specs.Vec.Iter.{into_iter_items, into_iter_len}
use Rattle.live_runs.proofs.facing.passes_again.Given as goal

abbrev pub invariant-loop-face : goal.invariant-loop-face
invariant-loop-face g l =
    (l.passes.items ++ map (λ f. f.pass) (into_iter_items l.rest) ≡ map (λ f. f.pass) l.fn.faces.items)
    × (length (into_iter_items l.rest) ≡ into_iter_len l.rest)

abbrev pub decreases-loop-face : goal.decreases-loop-face
decreases-loop-face g l = into_iter_len l.rest
