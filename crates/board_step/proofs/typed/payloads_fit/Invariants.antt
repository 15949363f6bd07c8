use Rattle.board_step.proofs.Basics.{AllWithin, PayloadFits}
use Rattle.board_step.proofs.typed.payloads_fit.Given as goal

-- the payloads of the rows so far
abbrev pub invariant-loop-k : goal.invariant-loop-k
invariant-loop-k l = AllWithin PayloadFits l.rows 0 l.k
