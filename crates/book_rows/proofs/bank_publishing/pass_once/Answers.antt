use Rattle.std.proofs.Common.{arith}
use Rattle.book_rows.proofs.Puts.{may_pass}
use Rattle.book_rows.proofs.bank_publishing.pass_once.Goals as goal

pub add-requires-clause-step : goal.add-requires-clause-step
add-requires-clause-step c = may_pass c.args.pen.now.seat.me.0 c.args.had c.args.caller c.requires.legal (omega (arith, c.if-had-ge-MOST.false))
