use Rattle.std.proofs.Common.{◌≡◌, ℕ, ◌<◌, false, get_or}
use Rattle.route_bank.proofs.marks.clear.Given as goal

abbrev pub invariant-loop-mark : goal.invariant-loop-mark
invariant-loop-mark l = (gsi : ℕ) → gsi < l.mark-index → get_or l.marks gsi false ≡ false
