use Rattle.part_slots.proofs.Histories.{slots_keep_parts}
use Rattle.part_slots.proofs.laws.slots_keep_parts.Goals as goal

pub returns : goal.returns
returns c = slots_keep_parts
