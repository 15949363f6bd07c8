use Rattle.std.proofs.Common.{length, ap, arith}
use Rattle.std.specs.Vec.Iter.{into_iter_items}
use Rattle.actors.proofs.Gathers.{gathers_next}
use Rattle.actors.proofs.gathering.gathered.Goals as goal

pub loop-one-preserved : goal.loop-one-preserved
loop-one-preserved g c = (
  gathers_next c.args.played.items (into_iter_items c.loop-one.rest) (into_iter_items c.next.new.self)
      c.loop-one.placed.items c.append.new.self.items c.loop-one.faces.items c.push.new.self.items c.loop-one.spent c.first_of-spent.result
      c.in-Some.one c.loop-one.invariant.0 c.in-Some.ensures.items c.if-kept.false c.in-Ok.ensures.items c.in-Ok-push.ensures.items c.first_of-spent.ensures,
  (let many = ap length c.in-Some.ensures.items in let here = c.loop-one.invariant.1 in let len = c.in-Some.ensures.len in omega (arith, many, here, len)),
)
