use Rattle.write_ring.specs.Seen.{IsPassOf}
use Rattle.book_rows.proofs.ring_reading.take_all.Given as goal

abbrev pub invariant-loop : goal.invariant-loop
invariant-loop g l = (goal.iterator-loop g).can_next l.iterator' × (goal.iterator-loop g).is_finite l.iterator' × IsPassOf l.ring l.pass
