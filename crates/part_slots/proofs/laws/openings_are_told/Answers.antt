use Rattle.part_slots.proofs.Histories.{openings_are_told}
use Rattle.part_slots.proofs.laws.openings_are_told.Goals as goal

pub returns : goal.returns
returns c = openings_are_told
