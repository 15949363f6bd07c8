use Rattle.board_step.proofs.Steps.{leads_to_one}
use Rattle.board_step.proofs.laws.leads_to_one.Goals as goal

pub returns : goal.returns
returns c = leads_to_one
