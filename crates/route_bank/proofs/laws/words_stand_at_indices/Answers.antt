use Rattle.route_bank.proofs.Places.{words_stand}
use Rattle.route_bank.proofs.laws.words_stand_at_indices.Goals as goal

pub returns : goal.returns
returns c = words_stand
