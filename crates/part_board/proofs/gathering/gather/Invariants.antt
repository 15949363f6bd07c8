use Rattle.std.proofs.Common.{◌≡◌, ◌+◌, ◌≤◌, length}
use Rattle.std.specs.Vec.Iter.{into_iter_items, into_iter_len}
use Rattle.part_copies.specs.Gathering.{apics_in, gathered}
use Rattle.part_board.proofs.gathering.gather.Given as goal
use Rattle.irq_bits.specs.declared.limits.TheConstants.{MAX_CPUS}

-- what is left to gather makes all
abbrev pub invariant-loop-slot : goal.invariant-loop-slot
invariant-loop-slot l =
    (gathered (into_iter_items l.rest) l.n l.parts ≡ gathered (into_iter_items l.initial.rest) l.initial.n l.initial.parts)
    × ((l.n + apics_in (into_iter_items l.rest) ≤ length l.parts.lapics) × (length l.parts.lapics ≤ MAX_CPUS))

abbrev pub decreases-loop-slot : goal.decreases-loop-slot
decreases-loop-slot l = into_iter_len l.rest
