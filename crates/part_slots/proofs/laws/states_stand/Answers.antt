use Rattle.part_slots.proofs.Histories.{states_stand}
use Rattle.part_slots.proofs.laws.states_stand.Goals as goal

pub returns : goal.returns
returns c = states_stand
