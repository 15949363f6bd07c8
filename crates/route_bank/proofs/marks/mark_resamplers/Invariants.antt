use Rattle.std.proofs.Common.{◌≡◌, ℕ, ◌<◌, ◌||◌, false, length, get_or, take}
use Rattle.irqfd_set.specs.Rows.{has_resampler}
use Rattle.route_bank.proofs.marks.mark_resamplers.Given as goal

abbrev pub invariant-loop-row : goal.invariant-loop-row
invariant-loop-row l = (gsi : ℕ) → gsi < length l.marks → get_or l.marks gsi false ≡ (get_or l.fn.marks gsi false || has_resampler (take l.row-index l.irqfds) gsi)
