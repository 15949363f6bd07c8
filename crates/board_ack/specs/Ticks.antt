-- A tick is injected (this board's own rule after KVM's tick reinjection).
use Rattle.std.specs.Prelude.{Bool, true, false}
use Rattle.std.specs.declared.option.Option.{Option}
use Rattle.irq_base.specs.declared.message.Source.TheVariants as sources
use Rattle.irq_base.specs.declared.shape.Part.TheVariants.{Tick}
use Rattle.irq_base.specs.declared.shape.Shape.{Shape}
use Rattle.tick_reinject.specs.Ticks.{ack_injects, tick_acked, tick_injected}
use Rattle.board_model.specs.Routing.{Routing}
use Rattle.board_model.specs.Statuses.{TargetAnswer}
use Rattle.board_model.specs.Plan.{About, injected, Plan, done, see, set as put_part, change, ◌>>=◌, ◌>>◌}
use Rattle.board_raise.specs.Signal.{inject}

-- a tick is injected on the tick's GSI, and its status tells whether the tick state is free
abbrev pub inject_tick : Routing → Shape → (Option TargetAnswer → About) → Plan (Unit {0})
inject_tick routing shape about = do
  status ← inject shape.cpus (routing.targets shape.tick) sources.Tick about
  change Tick (λ tick. tick_injected tick status)

-- the next tick is injected, where one is
abbrev pub inject_next : Routing → Shape → Bool → Plan (Unit {0})
inject_next routing shape true = inject_tick routing shape (λ pic. injected shape.tick pic)
inject_next routing shape false = done tt

-- under reinjection the tick state is free and has one tick less, if any is pending; the value tells whether the next is
-- injected, where one is left; without reinjection nothing happens
abbrev pub free_tick : Plan Bool
free_tick = do
  tick ← see Tick
  put_part Tick (tick_acked tick)
  done (ack_injects tick)

-- an acknowledge of a pin of the tick's GSI
abbrev pub acknowledge_tick : Routing → Shape → Plan (Unit {0})
acknowledge_tick routing shape = do
  injects ← free_tick
  inject_next routing shape injects
