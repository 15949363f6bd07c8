use Rattle.std.proofs.Common.{refl}
use Rattle.legal_check.proofs.checking.flaw_of.Goals as goal

pub returns-then-follows-clause-goes : goal.returns-then-follows-clause-goes
returns-then-follows-clause-goes c = λ before have. record {
  asked = c.in-Some.ensures.is before have;
  step = c.follows.ensures.leads c.if-follows.true;
  followed = c.follow.ensures before c.args.entry.now have c.in-Some.ensures.found.1 refl;
}
