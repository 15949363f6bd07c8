use Rattle.part_board.specs.Seen.{IsPassOf}
use Rattle.board_bench.proofs.asking.ask_again.Given as goal

abbrev pub invariant-loop : goal.invariant-loop
invariant-loop g l = IsPassOf l.board l.pass
