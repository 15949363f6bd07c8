use Rattle.std.proofs.Common.{◌≡◌, length}
use Rattle.std.specs.FinSet as set
use Rattle.board_raise.specs.OnRow.{accepted_by}
use Rattle.board_raise.specs.RowSteps.{numbers_between, reached_after}
use Rattle.board_raise.proofs.sending.accept_each.Given as goal

abbrev pub invariant-loop-n : goal.invariant-loop-n
invariant-loop-n l = record {
  places : length l.row ≡ length l.fn.row;
  row : accepted_by l.message l.takers (numbers_between l.n l.fn.reach.end) l.row ≡ accepted_by l.message l.takers (numbers_between l.fn.reach.first l.fn.reach.end) l.fn.row;
  reached : reached_after l.message l.takers (numbers_between l.n l.fn.reach.end) l.row l.reached ≡ reached_after l.message l.takers (numbers_between l.fn.reach.first l.fn.reach.end) l.fn.row (record { new = set.empty; stood = set.empty });
}
