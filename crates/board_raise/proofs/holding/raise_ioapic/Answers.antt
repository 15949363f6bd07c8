use Rattle.board_raise.proofs.Signalling.{only_ioapic}
use Rattle.board_raise.proofs.holding.raise_ioapic.Goals as goal

pub returns-in-Some-clause-kept : goal.returns-in-Some-clause-kept
returns-in-Some-clause-kept c = only_ioapic c.args.parts.now c.in-Some.part c.raise.new.self c.in-Some.is
