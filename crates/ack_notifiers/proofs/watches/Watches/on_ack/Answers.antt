use Rattle.std.proofs.Common.{ap, ◌∙◌}
use Rattle.irq_base.specs.declared.event.Event.TheVariants.{Watched}
use Rattle.irq_base.specs.Room.{with_told}
use Rattle.irq_base.proofs.SignalsLeft.{signals_fit}
use Rattle.ack_notifiers.specs.Rows.{watched, watch_events}
use Rattle.ack_notifiers.proofs.watches.Watches.on_ack.Goals as goal

pub returns-clause-all : goal.returns-clause-all
returns-clause-all g c = λ room.
    signals_fit Watched c.args.events.now.items c.signal_rows.new.events.items (watched c.args.self.now c.args.gsi)
    (c.signal_rows.ensures.events ∙ ap (λ rows. with_told c.args.events.now.items (watch_events rows c.args.gsi)) (c.as_slice.ensures.value ∙ c.self.view_is)) room
