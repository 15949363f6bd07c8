use Rattle.std.proofs.Common.{◌∙◌, sym}
use Rattle.part_board.proofs.Openings.{opening_places, opening_slots}
use Rattle.part_board.proofs.opening.open.Goals as goal

pub slots_from-requires : goal.slots_from-requires
slots_from-requires c = record { cpus = sym (opening_places c.args.shape.now c.args.parts c.requires.parts) }

pub begin-requires-clause-parts : goal.begin-requires-clause-parts
begin-requires-clause-parts c = c.in_ok-slots.ensures.slots ∙ opening_slots c.args.shape.now c.args.parts c.requires.parts c.requires.pins
