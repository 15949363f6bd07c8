use Rattle.std.specs.Prelude.{◌≡◌}
use Rattle.turn_book.specs.Histories.{IsPrefix}
use Rattle.part_board.specs.DueNow.{due_turns, GrewBy}
use Rattle.part_board.specs.Seen.{pass_seen, pass_view, entries_by, IsPassOf}
use Rattle.part_board.proofs.live.LiveBoard.due.Given as goal

abbrev pub invariant-loop : goal.invariant-loop
invariant-loop g l =
    (goal.iterator-loop g).can_next l.iterator' × (goal.iterator-loop g).is_finite l.iterator' × IsPassOf l.self l.pass × (l.pass.caller ≡ l.fn.pass.caller)
    × IsPrefix (pass_seen l.fn.pass) (pass_seen l.pass) × (entries_by l.fn.pass.caller (pass_seen l.pass) ≡ entries_by l.fn.pass.caller (pass_seen l.fn.pass))
    × GrewBy (due_turns l.fn.pass.caller) (pass_view l.fn.pass).took (pass_view l.pass).took
    × GrewBy (due_turns l.fn.pass.caller) (pass_view l.fn.pass).found (pass_view l.pass).found
    × ((pass_view l.pass).misses ≡ (pass_view l.fn.pass).misses)
