-- How much an actor can ask (this board's own).
use Rattle.std.specs.Prelude.{ℕ, zero, suc}
use Rattle.irq_base.specs.declared.reply.Reply.{Reply}
use Rattle.script_text.specs.Asks.{Asks, no_more, ask}

-- whatever is answered, at most so many calls are asked
abbrev pub AsksAtMost : ℕ → Asks → Type 0
AsksAtMost n no_more = Unit {0}
AsksAtMost zero (ask call k) = ⊥
AsksAtMost (suc n) (ask call k) = (reply : Reply) → AsksAtMost n (k reply)
