use Rattle.std.specs.List.{AllWithin}
use Rattle.transcript.specs.Fitting.{FitsEntry}
use Rattle.transcript.proofs.fitting.transcripts_fit.Given as goal

-- the entries so far fit
abbrev pub invariant-loop-place : goal.invariant-loop-place
invariant-loop-place l = AllWithin FitsEntry l.run.history 0 l.place
