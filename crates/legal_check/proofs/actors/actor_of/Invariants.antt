use Rattle.std.proofs.Common.{◌≡◌, ℕ, ◌<◌}
use Rattle.script_text.specs.Asks.{caller_at}
use Rattle.legal_check.proofs.actors.actor_of.Given as goal

-- no actor so far is this caller
abbrev pub invariant-loop-actor : goal.invariant-loop-actor
invariant-loop-actor l = (a : ℕ) → a < l.actor → caller_at l.script.lines a ≡ l.caller → ⊥
