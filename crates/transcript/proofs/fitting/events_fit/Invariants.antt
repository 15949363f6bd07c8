use Rattle.std.specs.List.{AllWithin}
use Rattle.transcript.specs.Fitting.{FitsEvent}
use Rattle.transcript.proofs.fitting.events_fit.Given as goal

-- those so far fit
abbrev pub invariant-loop-k : goal.invariant-loop-k
invariant-loop-k l = AllWithin FitsEvent l.events 0 l.k
