use Rattle.std.proofs.Common.{◌≡◌, take}
use Rattle.legal_check.proofs.same.same_rows.Given as goal

-- the rows before k are equal
abbrev pub invariant-loop-k : goal.invariant-loop-k
invariant-loop-k l = take l.k l.rows ≡ take l.k l.other
