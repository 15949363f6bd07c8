use Rattle.board_raise.proofs.Signalling.{only_ioapic}
use Rattle.board_ack.proofs.Stepping.{pins_with, entry_ends}
use Rattle.board_ack.proofs.entry.end_entry.Goals as goal

pub returns-in-Some-clause-does : goal.returns-in-Some-clause-does
returns-in-Some-clause-does c = λ ws.
    entry_ends c.args.pin c.args.parts.now c.in-Some.part c.end_entry_of.new.part c.in-Some.is c.end_entry_of.result ws c.end_entry_of.ensures.after c.end_entry_of.ensures.message

pub returns-in-Some-clause-kept : goal.returns-in-Some-clause-kept
returns-in-Some-clause-kept c = only_ioapic c.args.parts.now c.in-Some.part c.end_entry_of.new.part c.in-Some.is

pub returns-in-Some-clause-fits : goal.returns-in-Some-clause-fits
returns-in-Some-clause-fits c = pins_with c.args.parts.now c.end_entry_of.new.part c.requires.fits c.end_entry_of.ensures.fits
