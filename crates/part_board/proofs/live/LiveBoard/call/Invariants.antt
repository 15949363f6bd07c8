use Rattle.std.specs.Prelude.{◌≡◌}
use Rattle.turn_book.specs.Histories.{IsPrefix}
use Rattle.part_reach.specs.Turns.{AddsReached}
use Rattle.part_board.specs.Seen.{pass_view, pass_seen, entries_by, IsPassOf}
use Rattle.part_board.proofs.live.LiveBoard.call.Given as goal

abbrev pub invariant-loop : goal.invariant-loop
invariant-loop g l =
    (goal.iterator-loop g).can_next l.iterator' × (goal.iterator-loop g).is_finite l.iterator' × IsPassOf l.self l.pass × (l.pass.caller ≡ l.fn.pass.caller)
    × IsPrefix (pass_seen l.fn.pass) (pass_seen l.pass) × (entries_by l.fn.pass.caller (pass_seen l.pass) ≡ entries_by l.fn.pass.caller (pass_seen l.fn.pass))
    × AddsReached l.self.shape l.fn.pass.caller l.call (pass_seen l.fn.pass) (pass_seen l.pass) (pass_view l.fn.pass).took (pass_view l.pass).took
    × AddsReached l.self.shape l.fn.pass.caller l.call (pass_seen l.fn.pass) (pass_seen l.pass) (pass_view l.fn.pass).found (pass_view l.pass).found
