use Rattle.std.proofs.Common.{◌≡◌, ◌++◌, length}
use Rattle.script_text.specs.Causes.{of_one}
use Rattle.script_text.specs.Words.{more_words}
use Rattle.script_text.specs.Commands.{rows}
use Rattle.script_text.proofs.rows.rows.Given as goal

abbrev pub invariant-loop-word : goal.invariant-loop-word
invariant-loop-word l = of_one (λ ts. l.rows ++ ts) (rows (more_words l.left)) ≡ rows (more_words l.tail)

abbrev pub decreases-loop-word : goal.decreases-loop-word
decreases-loop-word l = length l.left
