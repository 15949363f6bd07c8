use Rattle.std.proofs.Common.{arith}
use Rattle.book_rows.proofs.Puts.{put_leads}
use Rattle.book_rows.proofs.bank_publishing.put_once.Goals as goal

pub add-requires-clause-step : goal.add-requires-clause-step
add-requires-clause-step c =
    put_leads c.args.pen.now.seat.me.0 c.publish.new.pen.seat.me.0 c.args.had c.args.change.now c.in-Put.field-0 c.in-Put.registry c.in-Put.is c.publish.ensures.rest
    c.requires.legal (omega (arith, c.if-had-ge-MOST.false)) c.requires.generation (omega (arith, c.if-had-ge-MOST_PUTS.false))
