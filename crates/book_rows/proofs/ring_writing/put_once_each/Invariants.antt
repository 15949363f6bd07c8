use Rattle.write_ring.specs.Seen.{IsPassOf}
use Rattle.book_rows.proofs.ring_writing.put_once_each.Given as goal

abbrev pub invariant-loop-k : goal.invariant-loop-k
invariant-loop-k g l = IsPassOf l.ring l.pass
