-- The choice of a sending can be followed: to wish for what it reached is to reach it again.
use Rattle.std.specs.Prelude.{ℕ}
use Rattle.std.specs.declared.option.Option.{Option}
use Rattle.irq_base.specs.declared.message.Message.{Message}
use Rattle.lapic.specs.declared.outcome.Shorthand.{Shorthand}
use Rattle.board_model.specs.Plan.{About}
use Rattle.board_model.specs.Following.{IsSteady}
use Rattle.board_raise.specs.Send.{send}

abbrev pub SendsSteadily : Type 0
SendsSteadily = (cpus : ℕ) (message : Message) (from : Option (ℕ × Shorthand)) (about : About) → IsSteady (send cpus message from about)
