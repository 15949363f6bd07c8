-- What the calls of ticks do (this board's own rule after KVM's tick reinjection).
use Rattle.std.specs.Prelude.{Bool, true, false}
use Rattle.irq_base.specs.declared.reply.Reply.TheVariants.{Done, Held}
use Rattle.irq_base.specs.declared.shape.Part.TheVariants.{Tick}
use Rattle.irq_base.specs.declared.shape.Shape.{Shape}
use Rattle.tick_reinject.specs.declared.state.TickState.{TickState}
use Rattle.tick_reinject.specs.Ticks.{in_mode, tick_injects, ticked}
use Rattle.board_model.specs.Routing.{Routing}
use Rattle.board_model.specs.Plan.{the_reply, Plan, see, set as put_part, reply, ◌>>=◌, ◌>>◌}
use Rattle.board_ack.specs.Ticks.{inject_tick}

-- a tick is injected, and its status is the reply; or it is held back with those that are pending
abbrev pub tick_or_hold : Routing → Shape → TickState → Bool → Plan (Unit {0})
tick_or_hold routing shape after true = inject_tick routing shape (λ pic. the_reply pic)
tick_or_hold routing shape after false = reply (Held after.pending)

-- a tick falls
abbrev pub tick : Routing → Shape → Plan (Unit {0})
tick routing shape = do
  before ← see Tick
  put_part Tick (ticked before)
  tick_or_hold routing shape (ticked before) (tick_injects before)

-- reinjection is turned on or off: nothing is pending, and the state is free
abbrev pub tick_mode : Bool → Plan (Unit {0})
tick_mode reinject = do
  put_part Tick (in_mode reinject)
  reply Done
