-- Where GSIs, pins and triggers go, as every call reads it (KVM_SET_GSI_ROUTING, KVM_IRQFD).
use Rattle.std.specs.Prelude.{ℕ, Bool, ◌||◌, nat_eq, is_some, option_map}
use Rattle.std.specs.declared.option.Option.{Option}
use Rattle.irq_base.specs.declared.event.Pin.{Pin}
use Rattle.irq_base.specs.declared.message.Targets.{Targets}
use Rattle.irqfd_set.specs.declared.irqfds.Irqfd.{Irqfd}
use Rattle.irqfd_set.specs.Rows.{of_trigger, has_resampler}
use Rattle.ack_notifiers.specs.Rows.{has_watch}
use Rattle.route_table.specs.Rows.{targets_of}
use Rattle.route_table.specs.Pins.{gsi_of}
use Rattle.board_model.specs.declared.trigger.TriggerWord.{TriggerWord}
use Rattle.board_model.specs.Registry.{RegistryPart}

-- the targets of a GSI, whether an acknowledge of it is of concern to anybody, the GSI of a pin, and what a trigger injects
pub record Routing : Type 0 where
  pub targets : ℕ → Targets
  pub marked : ℕ → Bool
  pub gsi_of : Pin → Option ℕ
  pub trigger : ℕ → Option TriggerWord

-- a GSI is marked where it has a resampler or an acknowledge notifier, or is that of the tick
abbrev pub is_marked : RegistryPart → ℕ → ℕ → Bool
is_marked registry tick gsi = has_resampler registry.irqfds gsi || (has_watch registry.watches gsi || nat_eq gsi tick)

-- what a trigger injects, by its irqfd
abbrev pub trigger_of : Irqfd → TriggerWord
trigger_of row = record { gsi = row.gsi; resample = is_some row.resample }

-- the routing of a registry, ticks going to this GSI
abbrev pub routing_of_registry : RegistryPart → ℕ → Routing
routing_of_registry registry tick = record {
  targets = λ gsi. targets_of registry.table gsi;
  marked = λ gsi. is_marked registry tick gsi;
  gsi_of = λ pin. gsi_of registry.table pin;
  trigger = λ counter. option_map trigger_of (of_trigger registry.irqfds counter);
}
