use Rattle.board_raise.proofs.Signalling.{only_ioapic}
use Rattle.board_raise.proofs.holding.let_go_ioapic.Goals as goal

pub returns-in-Some-ioapic-clause-kept : goal.returns-in-Some-ioapic-clause-kept
returns-in-Some-ioapic-clause-kept c = only_ioapic c.args.parts.now c.in-Some-ioapic.part c.let_go.new.self c.in-Some-ioapic.is
