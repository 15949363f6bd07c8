use Rattle.std.proofs.Common.{All}
use Rattle.part_board.specs.Seen.{IsDeskOf, IsPassOf}
use Rattle.live_rows.proofs.opening.passes_of.Given as goal

abbrev pub invariant-loop-cpu : goal.invariant-loop-cpu
invariant-loop-cpu l = IsDeskOf l.board l.desk × All (IsPassOf l.board) l.passes.items
