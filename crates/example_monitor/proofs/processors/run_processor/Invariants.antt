use Rattle.std.specs.Prelude.{◌≡◌, true}
use Rattle.part_board.specs.DueNow.{is_processor}
use Rattle.part_board.specs.Seen.{IsPassOf}
use Rattle.example_monitor.proofs.processors.run_processor.Given as goal

abbrev pub invariant-loop : goal.invariant-loop
invariant-loop g l =
    (goal.iterator-loop g).can_next l.iterator' × (goal.iterator-loop g).is_finite l.iterator' × IsPassOf l.monitor.board l.pass
    × (is_processor l.pass.caller ≡ true)
