use Rattle.std.proofs.Common.{◌+◌, ◌<◌, length, Err, sym, ap, ◌∙◌, subst, arith}
use Rattle.std.proofs.lemmas.Bool.Decides.{nat_tests}
use Rattle.irq_base.specs.Callers.{is_there}
use Rattle.script_text.specs.Asks.{actors_of}
use Rattle.live_runs.proofs.Passes.{actor_there, Made, one_more, not_taken}
use Rattle.live_runs.proofs.making.passes_of.Goals as goal

pub pass-requires-clause-there : goal.pass-requires-clause-there
pass-requires-clause-there c =
    let s = c.args.script.now in
    let k = c.loop-actor.actor in
    let low : k < length (actors_of s.lines) = (let t = c.loop-actor-test.true in let e = c.actors-actor-end.ensures in grind (t, e, arith, nat_tests)) in
    (λ i. is_there (c.caller_of.ensures i) (c.requires.shape i)) ∙ actor_there s k c.requires.script low

pub unreachable-requires : goal.unreachable-requires
unreachable-requires c =
    let s = c.args.script.now in
    let k = c.loop-actor.actor in
    let low : k < length (actors_of s.lines) = (let t = c.loop-actor-test.true in let e = c.actors-actor-end.ensures in grind (t, e, arith, nat_tests)) in
    not_taken s c.loop-actor.desk k c.loop-actor.passes.items c.caller_of.result low c.caller_of.ensures c.loop-actor.invariant.2 c.loop-actor.invariant.3
    (c.pass.ensures.taken.0 (c.in-Err-Taken.is ∙ ap (λ e. Err e) c.in-Err-Taken.field-0-is))

pub loop-actor-preserved : goal.loop-actor-preserved
loop-actor-preserved c =
    let s = c.args.script.now in
    let k = c.loop-actor.actor in
    let low : k < length (actors_of s.lines) = (let t = c.loop-actor-test.true in let e = c.actors-actor-end.ensures in grind (t, e, arith, nat_tests)) in
    subst (Made c.args.board.now (actors_of s.lines) c.pass.new.self (k + 1)) (sym c.in-Ok-push.ensures.items)
    (one_more c.args.board.now (actors_of s.lines) c.loop-actor.desk c.pass.new.self k c.loop-actor.passes.items c.caller_of.result c.in-Ok.pass low c.caller_of.ensures
    c.in-Ok.ensures.desk c.in-Ok.ensures.pass c.in-Ok.ensures.made c.loop-actor.invariant)
