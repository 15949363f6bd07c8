use Rattle.part_slots.proofs.Commits.{kept_parts_are_slots}
use Rattle.part_slots.proofs.laws.kept_parts_are_slots.Goals as goal

pub returns : goal.returns
returns c = kept_parts_are_slots
