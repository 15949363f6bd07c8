use Rattle.std.proofs.Common.{◌≡◌, ◌++◌, drop}
use Rattle.entry_copies.proofs.copies.rows_of.Given as goal

-- the rows so far, and those to come
abbrev pub invariant-rows : goal.invariant-rows
invariant-rows l = l.copy ++ drop l.k l.rows ≡ l.rows
