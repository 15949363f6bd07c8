use Rattle.part_board.specs.Seen.{IsPassOf}
use Rattle.example_monitor.proofs.devices.run_router.Given as goal

abbrev pub invariant-loop-k : goal.invariant-loop-k
invariant-loop-k g l = IsPassOf l.monitor.board l.pass
