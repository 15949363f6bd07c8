use Rattle.part_board.specs.Seen.{IsPassOf}
use Rattle.board_bench.proofs.asking.look_again.Given as goal

abbrev pub invariant-loop : goal.invariant-loop
invariant-loop l = IsPassOf l.board l.pass
