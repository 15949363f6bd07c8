use Rattle.board_raise.proofs.Signalling.{only_ioapic}
use Rattle.board_raise.proofs.holding.accept_pin.Goals as goal

pub returns-in-Some-clause-kept : goal.returns-in-Some-clause-kept
returns-in-Some-clause-kept c = only_ioapic c.args.parts.now c.in-Some.part c.accepted.new.self c.in-Some.is
