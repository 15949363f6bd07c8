use Rattle.std.proofs.Common.{◌≡◌, drop, find}
use Rattle.ioevent_set.specs.Rows.{does_fit}
use Rattle.ioevent_set.proofs.events.first_fit.Given as goal

-- no row so far fits, so the first that does is in the rest
abbrev pub invariant-loop-row : goal.invariant-loop-row
invariant-loop-row l = find (does_fit l.space l.address l.len l.value) l.rows ≡ find (does_fit l.space l.address l.len l.value) (drop l.row-index l.rows)
