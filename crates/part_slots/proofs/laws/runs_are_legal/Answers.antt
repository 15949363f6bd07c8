use Rattle.part_slots.proofs.Histories.{runs_are_legal}
use Rattle.part_slots.proofs.laws.runs_are_legal.Goals as goal

pub returns : goal.returns
returns c = runs_are_legal
