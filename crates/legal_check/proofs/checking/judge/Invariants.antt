use Rattle.std.proofs.Common.{take}
use Rattle.legal_check.proofs.Tried.{Running}
use Rattle.legal_check.proofs.checking.judge.Given as goal

abbrev pub invariant-loop-place : goal.invariant-loop-place
invariant-loop-place l = Running l.script (take l.place l.run.history) l.board l.all.items
