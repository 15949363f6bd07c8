use Rattle.part_board.specs.Seen.{IsPassOf}
use Rattle.example_monitor.proofs.devices.tick_again.Given as goal

abbrev pub invariant-loop : goal.invariant-loop
invariant-loop g l =
    (goal.iterator-loop g).can_next l.iterator' × (goal.iterator-loop g).is_finite l.iterator' × IsPassOf l.monitor.board l.pass
