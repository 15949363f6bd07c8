use Rattle.part_board.specs.Seen.{IsPassOf}
use Rattle.live_rows.proofs.jobs.work.Given as goal

abbrev pub invariant-loop-k : goal.invariant-loop-k
invariant-loop-k g l = IsPassOf l.board l.pass
