use Rattle.std.proofs.Common.{◌≡◌, ◌&&◌, not, drop}
use Rattle.irq_base.specs.declared.call.Caller.{Caller}
use Rattle.part_board.specs.Callers.{has_caller}
use Rattle.part_board.specs.Closing.{has_pass}
use Rattle.part_board.specs.Seen.{has_made}
use Rattle.part_board.proofs.closing.first_missing.Given as goal

-- who is missing is missing in what is left
abbrev pub invariant-loop-pass : goal.invariant-loop-pass
invariant-loop-pass l = (c : Caller) → (not (has_pass (drop l.pass-index l.passes) c) && has_caller l.left c) ≡ (not (has_pass l.passes c) && has_made l.desk c)
