use Rattle.std.proofs.Common.{sym, ◌∙◌, arith}
use Rattle.board_raise.proofs.Preferred.{common_least, common_none, common_with_none}
use Rattle.board_raise.proofs.sending.first_common.Goals as goal

pub returns-then-has-2-clause-least : goal.returns-then-has-2-clause-least
returns-then-has-2-clause-least c =
    common_least c.args.one.now c.args.other.now c.loop-n.n (sym c.has.ensures ∙ c.if-has.true) (sym c.has-then-has.ensures ∙ c.if-has-2.true) c.loop-n.invariant

pub returns-clause-least : goal.returns-clause-least
returns-clause-least c = common_none c.args.one.now c.args.other.now (λ k below. c.loop-n.invariant k (omega (below, c.loop-n-test.false, arith))) (λ k h. c.requires k h)

pub returns-then-is_empty-clause-least : goal.returns-then-is_empty-clause-least
returns-then-is_empty-clause-least c = common_with_none c.args.one.now c.args.other.now (c.is_empty.ensures.0 c.if-is_empty.true)
