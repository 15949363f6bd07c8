use Rattle.std.proofs.Common.{arith}
use Rattle.legal_check.proofs.Known.{asks-none}
use Rattle.legal_check.proofs.actors.actor_of.Goals as goal

pub returns-clause-none : goal.returns-clause-none
returns-clause-none c = λ before.
    let over = c.loop-actor-test.false in
    let all = c.actors-actor-end.ensures in
    asks-none c.args.script.now c.args.caller (λ k below. c.loop-actor.invariant k (omega (arith, over, all, below))) before
