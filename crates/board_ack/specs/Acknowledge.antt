-- One acknowledge of a pin, in its five steps (KVM_IRQFD, resample; 82093AA data sheet and SDM volume 3, level-triggered
-- interrupts and EOI; acknowledge notifiers and ticks are this board's own rule).
use Rattle.std.specs.Prelude.{ℕ, not, nat_eq, if◌then◌else◌, List, [], ◌∷◌, Some, None}
use Rattle.std.specs.declared.option.Option.{Option}
use Rattle.irq_base.specs.declared.event.Event.{Event}
use Rattle.irq_base.specs.declared.event.Event.TheVariants.{Acked}
use Rattle.irq_base.specs.declared.event.Pin.{Pin}
use Rattle.irq_base.specs.declared.event.Pin.TheVariants as pins
use Rattle.irq_base.specs.declared.message.Message.{Message}
use Rattle.irq_base.specs.declared.message.Source.TheVariants.{Resample}
use Rattle.irq_base.specs.declared.message.Targets.{Targets}
use Rattle.irq_base.specs.declared.shape.Part.TheVariants.{Registry, Counters, Tick, Pic, Ioapic}
use Rattle.irq_base.specs.declared.shape.Shape.{Shape}
use Rattle.ioapic_82093aa.specs.Pins.{entry_at, pin_acked, resend_of}
use Rattle.irq_base.specs.Counts.{signalled_all}
use Rattle.irqfd_set.specs.Rows.{has_resampler}
use Rattle.resampler.specs.Resample.{resampled, resample_events}
use Rattle.ack_notifiers.specs.Rows.{watched, watch_events}
use Rattle.board_model.specs.Registry.{RegistryPart}
use Rattle.board_model.specs.Routing.{Routing}
use Rattle.board_model.specs.Chips.{IoapicPart, ioapic_of, with_ioapic}
use Rattle.board_model.specs.Plan.{resent, Plan, done, see, set as put_part, change, say, ◌>>=◌, ◌>>◌}
use Rattle.board_raise.specs.Send.{send}
use Rattle.board_raise.specs.Signal.{is_accepted, accept_pin, let_go}
use Rattle.board_ack.specs.Ticks.{acknowledge_tick}

-- these events, in order
abbrev pub say_each : List Event → Plan (Unit {0})
say_each [] = done tt
say_each (event ∷ events) = do
  say event
  say_each events

-- each of these counters gains one, a full one staying full, and these events tell it
abbrev pub signal_each : List ℕ → List Event → Plan (Unit {0})
signal_each counters events = do
  change Counters (λ counts. signalled_all counts counters)
  say_each events

-- ---- steps 2 and 3: those whom the GSI concerns

-- the registry, after a look at each part that an acknowledge of a marked GSI may concern, so that what is reached depends on
-- the mark alone, and not on which registrations there are
abbrev pub see_concerned : Plan RegistryPart
see_concerned = do
  registry ← see Registry
  counts ← see Counters
  tick ← see Tick
  pic ← see Pic
  ioapic ← see Ioapic
  done registry

-- step 2: where the GSI has resamplers, Resample leaves all its pins, and each resample counter gains one, in order
abbrev pub resample : Targets → ℕ → RegistryPart → Plan (Unit {0})
resample targets gsi registry =
    if not (has_resampler registry.irqfds gsi) then done tt
    else do
      let_go targets Resample
      signal_each (resampled registry.irqfds gsi) (resample_events registry.irqfds gsi)

-- step 3: the counter of each acknowledge notifier of the GSI gains one, in order
abbrev pub notify : ℕ → RegistryPart → Plan (Unit {0})
notify gsi registry = signal_each (watched registry.watches gsi) (watch_events registry.watches gsi)

-- steps 2 and 3 of a GSI that goes to these targets and concerns somebody
abbrev pub concern : Targets → ℕ → Plan (Unit {0})
concern targets gsi = do
  registry ← see_concerned
  resample targets gsi registry
  notify gsi registry

-- the same by the routing
abbrev pub resample_and_notify : Routing → ℕ → Plan (Unit {0})
resample_and_notify routing gsi = concern (routing.targets gsi) gsi

-- steps 2 and 3: a GSI that is not marked concerns nobody
abbrev pub tell_concerned : Routing → Option ℕ → Plan (Unit {0})
tell_concerned routing None = done tt
tell_concerned routing (Some gsi) = if routing.marked gsi then resample_and_notify routing gsi else done tt

-- ---- step 4: the redirection entry

-- a message that is sent again shows as Resent, and sets remote IRR again where processors took a level-triggered one
abbrev pub resend : ℕ → ℕ → Option Message → Plan (Unit {0})
resend cpus pin None = done tt
resend cpus pin (Some message) = do
  answer ← send cpus message None (resent pin)
  accept_pin pin (is_accepted message answer)

-- remote IRR is cleared, and the pin is sent again where it is still high and unmasked
abbrev pub clear_and_resend : ℕ → ℕ → IoapicPart → Plan (Unit {0})
clear_and_resend cpus pin part = do
  put_part Ioapic (with_ioapic part (pin_acked (ioapic_of part) pin))
  resend cpus pin (resend_of (pin_acked (ioapic_of part) pin) pin)

-- step 4: of a pin of the I/O APIC whose entry is level-triggered
abbrev pub end_level : ℕ → Pin → Plan (Unit {0})
end_level cpus (pins.Pic pin) = done tt
end_level cpus (pins.Ioapic pin) = do
  part ← see Ioapic
  (if (entry_at (ioapic_of part) pin).level then clear_and_resend cpus pin part else done tt)

-- ---- step 5: the tick

-- step 5: where the GSI is the tick's
abbrev pub end_tick : Routing → Shape → Option ℕ → Plan (Unit {0})
end_tick routing shape None = done tt
end_tick routing shape (Some gsi) = if nat_eq gsi shape.tick then acknowledge_tick routing shape else done tt

-- ---- all five

-- a pin is acknowledged: it shows with its GSI, if it has one; its resamplers and its notifiers are told; a level-triggered
-- entry may be requested again; and the next tick may come
abbrev pub acknowledge : Routing → Shape → Pin → Plan (Unit {0})
acknowledge routing shape pin = do
  say (Acked pin (routing.gsi_of pin))
  tell_concerned routing (routing.gsi_of pin)
  end_level shape.cpus pin
  end_tick routing shape (routing.gsi_of pin)

-- pins are acknowledged, one after another
abbrev pub acknowledge_each : Routing → Shape → List Pin → Plan (Unit {0})
acknowledge_each routing shape [] = done tt
acknowledge_each routing shape (pin ∷ pins) = do
  acknowledge routing shape pin
  acknowledge_each routing shape pins
