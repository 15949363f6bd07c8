use Rattle.std.proofs.Common.{◌≡◌, ℕ, ◌<◌, ◌||◌, false, length, get_or, take}
use Rattle.ack_notifiers.specs.Rows.{has_watch}
use Rattle.route_bank.proofs.marks.mark_watches.Given as goal

abbrev pub invariant-loop-row : goal.invariant-loop-row
invariant-loop-row l = (gsi : ℕ) → gsi < length l.marks → get_or l.marks gsi false ≡ (get_or l.fn.marks gsi false || has_watch (take l.row-index l.watches) gsi)
