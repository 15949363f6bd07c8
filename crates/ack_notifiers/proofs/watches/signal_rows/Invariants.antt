use Rattle.std.proofs.Common.{drop}
use Rattle.irq_base.specs.declared.event.Event.TheVariants.{Watched}
use Rattle.irq_base.proofs.SignalsLeft.{SignalsLeft}
use Rattle.ack_notifiers.specs.Rows.{watched}
use Rattle.ack_notifiers.proofs.watches.signal_rows.Given as goal

-- the counters of the rows to come are left
abbrev pub invariant-loop-row : goal.invariant-loop-row
invariant-loop-row g l = SignalsLeft Watched (g.C.Tally.counts l.fn.counters) (g.C.Tally.counts l.counters) l.fn.events.items l.events.items (watched l.rows l.gsi) (watched (drop l.row-index l.rows) l.gsi)
