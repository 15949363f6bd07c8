use Rattle.part_board.specs.Seen.{IsPassOf}
use Rattle.board_bench.proofs.asking.ask_each.Given as goal

abbrev pub invariant-loop-call : goal.invariant-loop-call
invariant-loop-call g l = IsPassOf l.board l.pass
