use Rattle.part_board.specs.Seen.{IsPassOf}
use Rattle.example_monitor.proofs.devices.run_disk.Given as goal

abbrev pub invariant-loop : goal.invariant-loop
invariant-loop g l = IsPassOf l.monitor.board l.pass
