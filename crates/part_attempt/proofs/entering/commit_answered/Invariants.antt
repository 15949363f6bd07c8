use Rattle.std.proofs.Common.{Some}
use Rattle.part_attempt.specs.Entering.{entry_answered}
use Rattle.part_attempt.proofs.entering.commit_answered.Given as goal

abbrev pub ghosts-commit_named : goal.ghosts-commit_named
ghosts-commit_named a = record { entry = Some (entry_answered a.answered a.call.now a.events.now.items) }
