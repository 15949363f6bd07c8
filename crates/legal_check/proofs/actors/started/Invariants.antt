use Rattle.std.proofs.Common.{◌≡◌, replicate}
use Rattle.legal_check.proofs.actors.started.Given as goal

abbrev pub invariant-loop-actor : goal.invariant-loop-actor
invariant-loop-actor l = l.all.items ≡ replicate l._actor l.first
