use Rattle.std.proofs.Common.{drop}
use Rattle.irq_base.specs.declared.event.Event.TheVariants.{Resampled}
use Rattle.irq_base.proofs.SignalsLeft.{SignalsLeft}
use Rattle.resampler.specs.Resample.{resampled}
use Rattle.resampler.proofs.resample.on_ack.Given as goal

-- the counters of the rows to come are left
abbrev pub invariant-loop-row : goal.invariant-loop-row
invariant-loop-row l = SignalsLeft Resampled l.fn.counters l.counters l.fn.events.items l.events.items (resampled l.irqfds l.gsi) (resampled (drop l.row-index l.irqfds) l.gsi)
