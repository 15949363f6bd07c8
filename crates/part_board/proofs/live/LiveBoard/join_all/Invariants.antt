use Rattle.std.proofs.Common.{◌≡◌, All, length}
use Rattle.std.specs.Vec.Iter.{into_iter_items, into_iter_len}
use Rattle.part_slots.specs.Commits.{Seen}
use Rattle.part_board.specs.Joining.{JoinsAll}
use Rattle.part_board.specs.Seen.{desk_view, IsDeskOf, IsPassOf}
use Rattle.part_board.proofs.live.LiveBoard.join_all.Given as goal

-- what takes in the passes that are left takes in all
abbrev pub invariant-loop-pass : goal.invariant-loop-pass
invariant-loop-pass l =
    IsDeskOf l.self l.desk × All (IsPassOf l.self) (into_iter_items l.rest)
    × (length (into_iter_items l.rest) ≡ into_iter_len l.rest)
    × ((w : Seen) → JoinsAll (desk_view l.desk) (into_iter_items l.rest) w → JoinsAll (desk_view l.initial.desk) (into_iter_items l.initial.rest) w)

abbrev pub decreases-loop-pass : goal.decreases-loop-pass
decreases-loop-pass l = into_iter_len l.rest
