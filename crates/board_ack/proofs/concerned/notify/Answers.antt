use Rattle.std.proofs.Common.{length, Some, Ok, sym, ap, subst}
use Rattle.std.specs.Prelude.{option_map}
use Rattle.ack_notifiers.specs.Rows.{watched, watch_events}
use Rattle.board_model.specs.Registry.{RegistryPart}
use Rattle.board_model.specs.Run.{run_on}
use Rattle.board_raise.specs.declared.parts.Parts.{Parts}
use Rattle.board_raise.specs.InHand.{registry_of, parts_of}
use Rattle.board_ack.specs.Acknowledge.{notify}
use Rattle.board_ack.specs.OnHand.{Adds}
use Rattle.board_ack.proofs.Changing.{watchers_below, only_counters, registry_is, signals_add}
use Rattle.board_ack.proofs.concerned.notify.Goals as goal

pub on_ack-requires : goal.on_ack-requires
on_ack-requires c = record {
  each = watchers_below (length c.in-Some-counters.counters) c.in-Some.registry.watches c.args.gsi (c.requires.registered (registry_of c.in-Some.registry) c.in-Some-counters.counters (ap (option_map registry_of) c.in-Some.is) c.in-Some-counters.is).watches;
}

pub returns-clause-does : goal.returns-clause-does
returns-clause-does c = λ ws registry h.
    let p = c.args.parts.now in
    let more = c.on_ack.new.counters in
    let left : Parts = record p { counters = Some more } in
    subst (λ (r : RegistryPart). Adds (Ok tt) c.args.events.now.items c.on_ack.new.events.items (parts_of left) ws (run_on (notify c.args.gsi r) (parts_of p) ws)) (sym (registry_is p c.in-Some.registry registry c.in-Some.is h))
    (signals_add p c.in-Some-counters.counters more (watched c.in-Some.registry.watches c.args.gsi) (watch_events c.in-Some.registry.watches c.args.gsi) c.args.events.now.items c.on_ack.new.events.items ws c.in-Some-counters.is c.on_ack.ensures.counts c.on_ack.ensures.events)

pub returns-clause-kept : goal.returns-clause-kept
returns-clause-kept c = only_counters c.args.parts.now c.in-Some-counters.counters c.on_ack.new.counters (watched c.in-Some.registry.watches c.args.gsi) c.in-Some-counters.is c.on_ack.ensures.counts
