use Rattle.part_board.specs.Seen.{IsPassOf}
use Rattle.example_monitor.proofs.monitor.prepare_processors.Given as goal

abbrev pub invariant-loop-call : goal.invariant-loop-call
invariant-loop-call g l = IsPassOf l.monitor.board l.cpu0 × IsPassOf l.monitor.board l.cpu1
