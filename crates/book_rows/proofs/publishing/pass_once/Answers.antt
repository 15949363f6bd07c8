use Rattle.std.proofs.Common.{arith}
use Rattle.book_rows.proofs.Numbers.{may_pass}
use Rattle.book_rows.proofs.publishing.pass_once.Goals as goal

pub add_post-requires-clause-step : goal.add_post-requires-clause-step
add_post-requires-clause-step c = may_pass c.args.pen.now.seat.me.0 c.args.had c.args.caller c.requires.legal (omega (arith, c.if-had-ge-MOST.false))
