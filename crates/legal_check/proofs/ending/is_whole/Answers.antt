use Rattle.std.proofs.Common.{refl, ap, sym, ◌∙◌, arith}
use Rattle.std.specs.Option.{option_copied}
use Rattle.legal_check.proofs.Ended.{one-done, all-done}
use Rattle.legal_check.proofs.ending.is_whole.Goals as goal

pub loop-actor-preserved : goal.loop-actor-preserved
loop-actor-preserved c = λ entries have.
    one-done c.args.script.now entries c.loop-actor.actor (c.loop-actor.invariant entries have)
    (sym (c.next_of.ensures.asks entries have) ∙ ap option_copied c.in-None.is)

pub returns : goal.returns
returns c = λ entries have.
    let over = c.loop-actor-test.false in
    let all = c.actors-actor-end.ensures in
    ((λ _. all-done c.args.script.now entries (λ k below. c.loop-actor.invariant entries have k (omega (arith, over, all, below)))), (λ _. refl))
