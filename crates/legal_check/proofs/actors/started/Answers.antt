use Rattle.std.proofs.Common.{arith}
use Rattle.legal_check.proofs.Known.{have-started}
use Rattle.legal_check.proofs.actors.started.Goals as goal

pub returns : goal.returns
returns c =
    let past = c.loop-actor-test.false in
    let all = c.actors-actor-end.ensures in
    let within = c.loop-actor.auto._actor-end in
    have-started c.args.script.now c.loop-actor.all.items c.loop-actor._actor c.start-first.result (omega (arith, past, all, within))
    c.loop-actor.invariant c.start-first.ensures
