use Rattle.part_slots.proofs.Histories.{states_go_on}
use Rattle.part_slots.proofs.laws.states_go_on.Goals as goal

pub returns : goal.returns
returns c = states_go_on
