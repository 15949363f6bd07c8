use Rattle.part_reach.proofs.Barred.{bars, free}
use Rattle.part_reach.proofs.limits.barred.Goals as goal

pub returns-clause-bars : goal.returns-clause-bars
returns-clause-bars c = λ b counted. bars c.args.shape.now c.args.had _ c.args.call.now b counted c.publishes.result c.publishes.ensures.only (λ is. c.publishes.ensures.there b is counted.one_shape) c.barred_by.result c.barred_by.ensures

pub returns-clause-free : goal.returns-clause-free
returns-clause-free c = λ b counted reached none. free c.args.shape.now c.args.had _ c.args.call.now b counted c.publishes.result c.publishes.ensures.only (λ is. c.publishes.ensures.there b is counted.one_shape) reached c.barred_by.result c.barred_by.ensures none
