use Rattle.std.proofs.Common.{All}
use Rattle.part_board.specs.Seen.{IsPassOf}
use Rattle.live_rows.proofs.threads.all_jobs.Given as goal

abbrev pub invariant-loop-job : goal.invariant-loop-job
invariant-loop-job g l = All (IsPassOf l.board) l.passes.items
