use Rattle.write_ring.specs.Seen.{IsPassOf}
use Rattle.book_rows.proofs.ring_writing.put_all.Given as goal

abbrev pub invariant-loop-number : goal.invariant-loop-number
invariant-loop-number g l = IsPassOf l.ring l.pass
