use Rattle.board_ack.proofs.Changing.{only_tick, acked_less}
use Rattle.board_ack.proofs.ticks.free_tick.Goals as goal

pub returns-in-Some-clause-kept : goal.returns-in-Some-clause-kept
returns-in-Some-clause-kept c = only_tick c.args.parts.now c.in-Some.tick c.acked.new.self c.in-Some.is (acked_less c.in-Some.tick c.acked.new.self c.acked.ensures.after)
