use Rattle.std.specs.Prelude.{◌≡◌}
use Rattle.turn_book.specs.Histories.{IsPrefix}
use Rattle.write_ring.specs.Seen.{pass_seen, entries_by, IsPassOf}
use Rattle.write_ring.proofs.ring.WriteRing.put.Given as goal

abbrev pub invariant-loop : goal.invariant-loop
invariant-loop g l =
    (goal.iterator-loop g).can_next l.iterator' × (goal.iterator-loop g).is_finite l.iterator' × IsPassOf l.self l.pass × (l.pass.number ≡ l.fn.pass.number)
    × IsPrefix (pass_seen l.fn.pass) (pass_seen l.pass) × (entries_by l.fn.pass.number (pass_seen l.pass) ≡ entries_by l.fn.pass.number (pass_seen l.fn.pass))
