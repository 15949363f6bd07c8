use Rattle.std.proofs.Common.{sym, ◌∙◌}
use Rattle.board_raise.proofs.Between.{lacking_here, lacking_later, none_lacking}
use Rattle.board_raise.proofs.sending.first_lacking.Goals as goal

pub returns-then-not-holds : goal.returns-then-not-holds
returns-then-not-holds c = sym (lacking_here c.args.row.now c.loop-n.n c.args.reach.end c.loop-n-test.true (sym c.holds.ensures ∙ c.if-not-holds.true)) ∙ c.loop-n.invariant

pub loop-n-preserved : goal.loop-n-preserved
loop-n-preserved c = sym (lacking_later c.args.row.now c.loop-n.n c.args.reach.end c.loop-n-test.true (sym c.holds.ensures ∙ c.if-not-holds.false)) ∙ c.loop-n.invariant

pub returns : goal.returns
returns c = sym (none_lacking c.args.row.now c.loop-n.n c.args.reach.end c.loop-n-test.false) ∙ c.loop-n.invariant
