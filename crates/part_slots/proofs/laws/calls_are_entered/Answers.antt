use Rattle.part_slots.proofs.Commits.{calls_are_entered}
use Rattle.part_slots.proofs.laws.calls_are_entered.Goals as goal

pub returns : goal.returns
returns c = calls_are_entered
