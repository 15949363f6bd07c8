use Rattle.std.proofs.Common.{◌≡◌}
use Rattle.board_raise.specs.OnRow.{first_missing}
use Rattle.board_raise.specs.RowSteps.{numbers_between}
use Rattle.board_raise.proofs.sending.first_lacking.Given as goal

abbrev pub invariant-loop-n : goal.invariant-loop-n
invariant-loop-n l = first_missing l.row (numbers_between l.n l.fn.reach.end) ≡ first_missing l.row (numbers_between l.fn.reach.first l.fn.reach.end)
