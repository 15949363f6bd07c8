use Rattle.std.specs.List.{AllWithin}
use Rattle.script_text.specs.Fitting.{FitsRow}
use Rattle.transcript.proofs.fitting.rows_fit.Given as goal

-- those so far fit
abbrev pub invariant-loop-k : goal.invariant-loop-k
invariant-loop-k l = AllWithin FitsRow l.rows 0 l.k
