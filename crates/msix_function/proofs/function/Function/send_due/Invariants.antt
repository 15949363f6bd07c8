use Rattle.msix_function.proofs.Sends.{SentBelow}
use Rattle.msix_function.proofs.function.Function.send_due.Given as goal

abbrev pub invariant-loop-k : goal.invariant-loop-k
invariant-loop-k g l = SentBelow g.F.Face l.fn.self l.fn.face l.k l.sent l.face l.self l.fn.events.items l.events.items
