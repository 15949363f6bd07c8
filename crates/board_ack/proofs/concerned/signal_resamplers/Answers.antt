use Rattle.std.proofs.Common.{length, Some, Ok, sym, ap, subst}
use Rattle.std.specs.Prelude.{option_map}
use Rattle.resampler.specs.Resample.{resampled, resample_events}
use Rattle.board_model.specs.Registry.{RegistryPart}
use Rattle.board_model.specs.Run.{run_on}
use Rattle.board_raise.specs.declared.parts.Parts.{Parts}
use Rattle.board_raise.specs.InHand.{registry_of, parts_of}
use Rattle.board_ack.specs.Acknowledge.{signal_each}
use Rattle.board_ack.specs.OnHand.{Adds}
use Rattle.board_ack.proofs.Changing.{resamplers_below, only_counters, registry_is, signals_add}
use Rattle.board_ack.proofs.concerned.signal_resamplers.Goals as goal

pub on_ack-requires : goal.on_ack-requires
on_ack-requires c = record {
  each = resamplers_below (length c.in-Some-counters.counters) c.in-Some.registry.irqfds c.args.gsi (c.requires.registered (registry_of c.in-Some.registry) c.in-Some-counters.counters (ap (option_map registry_of) c.in-Some.is) c.in-Some-counters.is).irqfds;
}

pub returns-clause-does : goal.returns-clause-does
returns-clause-does c = λ ws registry h.
    let p = c.args.parts.now in
    let more = c.on_ack.new.counters in
    let left : Parts = record p { counters = Some more } in
    subst (λ (r : RegistryPart). Adds (Ok tt) c.args.events.now.items c.on_ack.new.events.items (parts_of left) ws (run_on (signal_each (resampled r.irqfds c.args.gsi) (resample_events r.irqfds c.args.gsi)) (parts_of p) ws)) (sym (registry_is p c.in-Some.registry registry c.in-Some.is h))
    (signals_add p c.in-Some-counters.counters more (resampled c.in-Some.registry.irqfds c.args.gsi) (resample_events c.in-Some.registry.irqfds c.args.gsi) c.args.events.now.items c.on_ack.new.events.items ws c.in-Some-counters.is c.on_ack.ensures.counts c.on_ack.ensures.events)

pub returns-clause-kept : goal.returns-clause-kept
returns-clause-kept c = only_counters c.args.parts.now c.in-Some-counters.counters c.on_ack.new.counters (resampled c.in-Some.registry.irqfds c.args.gsi) c.in-Some-counters.is c.on_ack.ensures.counts
