use Rattle.part_slots.proofs.Commits.{lacking_is_reached}
use Rattle.part_slots.proofs.laws.lacking_is_reached.Goals as goal

pub returns : goal.returns
returns c = lacking_is_reached
