use Rattle.board_ack.proofs.Changing.{only_tick, injected_same}
use Rattle.board_ack.proofs.ticks.tick_injected.Goals as goal

pub returns-in-Some-clause-kept : goal.returns-in-Some-clause-kept
returns-in-Some-clause-kept c = only_tick c.args.parts.now c.in-Some.tick c.injected.new.self c.in-Some.is (injected_same c.in-Some.tick c.injected.new.self c.args.status.now c.injected.ensures)
