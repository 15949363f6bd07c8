use Rattle.board_step.proofs.Basics.{◌≡◌, ◌-◌, opening_row}
use Rattle.board_step.proofs.opening.lapics.Given as goal

abbrev pub invariant-loop-n : goal.invariant-loop-n
invariant-loop-n l = l.row ≡ opening_row l.n (l.cpus - l.n)
