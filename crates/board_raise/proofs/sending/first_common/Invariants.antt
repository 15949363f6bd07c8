use Rattle.std.proofs.Common.{◌≡◌, ℕ, ◌<◌, false, ◌&&◌}
use Rattle.std.specs.FinSet as set
use Rattle.board_raise.proofs.sending.first_common.Given as goal

abbrev pub invariant-loop-n : goal.invariant-loop-n
invariant-loop-n l = (k : ℕ) → k < l.n → (set.contains l.one k && set.contains l.other k) ≡ false
