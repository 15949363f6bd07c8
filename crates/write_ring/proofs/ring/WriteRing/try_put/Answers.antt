use Rattle.std.proofs.Common.{refl, ap, ◌∙◌, inl}
use Rattle.write_ring.specs.Seen.{Seen}
use Rattle.write_ring.proofs.Attempts.{bare_again, stopped_along}
use Rattle.write_ring.proofs.ring.WriteRing.try_put.Goals as goal

pub invariant_of-pass-in-Got-clause-bare : goal.invariant_of-pass-in-Got-clause-bare
invariant_of-pass-in-Got-clause-bare c =
    let pass = c.args.pass.now in
    let v : Seen = pass.pen.seat.me.0 in
    let u : Seen = c.take.new.pen.seat.me.0 in
    let w : Seen = c.put_held-answer.new.pen.seat.me.0 in
    ap (λ (x : Seen). x.held) c.give.ensures.view ∙ bare_again v.held u.held w.held pass.bare (c.in-Got.ensures.just refl) c.put_held-answer.ensures.held

pub returns-in-Found-clause-stopped : goal.returns-in-Found-clause-stopped
returns-in-Found-clause-stopped c = inl (c.front.ensures.turns.2 ∙ (c.in-Found.ensures.found refl).0)

pub returns-in-Got-clause-stopped : goal.returns-in-Got-clause-stopped
returns-in-Got-clause-stopped c =
    let w : Seen = c.put_held-answer.new.pen.seat.me.0 in
    let x : Seen = c.give.new.pen.seat.me.0 in
    let view = c.give.ensures.view in
    stopped_along c.args.pass.now.pen.seat.me.0 c.take.new.pen.seat.me.0 w x c.put_held-answer.result (c.in-Got.ensures.took refl).1 c.take.ensures.list.5
    (ap (λ (y : Seen). y.found) view) (ap (λ (y : Seen). y.misses) view) (ap (λ (y : Seen). y.seen) view) c.put_held-answer.ensures.stopped
