-- How many events an acknowledge tells: at most its own, those of the rows of its GSI, and those of what is sent again.
use Rattle.std.proofs.Common.{◌≡◌, ℕ, ◌+◌, Bool, true, false, not, nat_eq, if◌then◌else◌, List, [], ◌∷◌, length, refl, sym, ◌∙◌, subst, arith, Some, None}
use Rattle.std.specs.declared.option.Option.{Option}
use Rattle.irq_base.specs.declared.event.Event.{Event}
use Rattle.irq_base.specs.declared.event.Event.TheVariants.{Acked}
use Rattle.irq_base.specs.declared.event.Pin.{Pin}
use Rattle.irq_base.specs.declared.event.Pin.TheVariants as pins
use Rattle.irq_base.specs.declared.message.Message.{Message}
use Rattle.irq_base.specs.declared.message.Source.TheVariants.{Resample, Tick}
use Rattle.irq_base.specs.declared.message.Targets.{Targets}
use Rattle.irq_base.specs.declared.shape.Part.TheVariants as parts
use Rattle.irq_base.specs.declared.shape.Shape.{Shape}
use Rattle.ioapic_82093aa.specs.Pins.{entry_at, pin_acked, resend_of}
use Rattle.irq_base.specs.Counts.{signalled_all}
use Rattle.irqfd_set.specs.Rows.{has_resampler}
use Rattle.resampler.specs.Resample.{resampled, resample_events}
use Rattle.ack_notifiers.specs.Rows.{watched, watch_events}
use Rattle.tick_reinject.specs.Ticks.{ack_injects, tick_acked, tick_injected}
use Rattle.board_model.specs.Board.{Board, with_part}
use Rattle.board_model.specs.Registry.{RegistryPart}
use Rattle.board_model.specs.Routing.{Routing}
use Rattle.board_model.specs.Chips.{IoapicPart, ioapic_of, with_ioapic}
use Rattle.board_model.specs.Statuses.{TargetAnswer}
use Rattle.board_model.specs.Plan.{About, injected, resent, Plan, done, tell, change, ◌>>◌}
use Rattle.board_model.specs.Run.{run}
use Rattle.board_model.proofs.Lens.{part_of-with_other}
use Rattle.board_raise.specs.Send.{send}
use Rattle.board_raise.specs.Signal.{is_accepted, accept_pin, let_go, inject}
use Rattle.board_raise.proofs.Counting.{Told, Tells, events_for, answers_for, IsKind, tells_both, tells_more, tells_later, tells_before, done_tells, accept_pin_tells, send_tells, let_go_tells, inject_tells}
use Rattle.board_ack.specs.Ticks.{inject_tick, inject_next, acknowledge_tick}
use Rattle.board_ack.specs.Acknowledge.{say_each, signal_each, resample, notify, resample_and_notify, tell_concerned, resend, clear_and_resend, end_level, end_tick, acknowledge, acknowledge_each}

-- ---- how many

-- the boards with this registry
abbrev pub HasRegistry : RegistryPart → Board → Type 0
HasRegistry registry b = b.registry ≡ registry

-- the events of the resamplers and the notifiers of a GSI
abbrev pub rows_for : RegistryPart → Option ℕ → ℕ
rows_for registry None = 0
rows_for registry (Some gsi) = length (resample_events registry.irqfds gsi) + length (watch_events registry.watches gsi)

-- the injection of a next tick
abbrev pub ticks_for : Shape → Option ℕ → ℕ
ticks_for shape None = 0
ticks_for shape (Some gsi) = if nat_eq gsi shape.tick then 1 else 0

-- a pin of the I/O APIC may be sent again
abbrev pub again_for : Pin → ℕ
again_for (pins.Pic pin) = 0
again_for (pins.Ioapic pin) = 1

-- the events of one acknowledge, at most
abbrev pub acknowledge_events : Routing → Shape → RegistryPart → Pin → ℕ
acknowledge_events routing shape registry pin = 1 + rows_for registry (routing.gsi_of pin) + again_for pin + ticks_for shape (routing.gsi_of pin)

-- the events of several, at most
abbrev pub each_events : Routing → Shape → RegistryPart → List Pin → ℕ
each_events routing shape registry [] = 0
each_events routing shape registry (pin ∷ pins) = acknowledge_events routing shape registry pin + each_events routing shape registry pins

-- ---- on the boards of a kind

module _ (Kind : Board → Type 0) (kind : IsKind Kind) where
  -- an event more
  pub tell_tells : {A : Type 0} (i k : ℕ) (event : Event) (m : Plan A) → Tells Kind i k m → Tells Kind (1 + i) k (tell event m)
  tell_tells i k event m t = λ b ws h.
      let r = t b ws h in
      record { events_at_most = omega (arith, r.events_at_most); answers_exactly = r.answers_exactly; left = r.left }

  say_tells : (events : List Event) → Tells Kind (length events) 0 (say_each events)
  say_tells [] = done_tells Kind tt
  say_tells (event ∷ events) = λ b ws h.
      let r = say_tells events b ws h in
      record { events_at_most = omega (arith, r.events_at_most); answers_exactly = r.answers_exactly; left = r.left }

  signal_tells : (counters : List ℕ) (events : List Event) → Tells Kind (length events) 0 (signal_each counters events)
  signal_tells counters events = λ b ws h.
      say_tells events (with_part b parts.Counters (signalled_all b.counters counters)) ws (kind b parts.Counters (signalled_all b.counters counters) refl h)

  resample_tells : (targets : Targets) (gsi : ℕ) (registry : RegistryPart) → Tells Kind (length (resample_events registry.irqfds gsi)) 0 (resample targets gsi registry)
  resample_tells targets gsi registry = elim (has_resampler registry.irqfds gsi) as (λ t. Tells Kind (length (resample_events registry.irqfds gsi)) 0 (if not t then done tt else (let_go targets Resample >> rest))) [
    | true ↦ tells_later Kind (length (resample_events registry.irqfds gsi)) 0 (λ _. rest) (let_go targets Resample) (let_go_tells Kind kind targets Resample) (λ _. signal_tells (resampled registry.irqfds gsi) (resample_events registry.irqfds gsi))
    | false ↦ tells_more Kind 0 (length (resample_events registry.irqfds gsi)) 0 0 (done tt) (omega arith) refl (done_tells Kind tt)
  ]
    where
      rest : Plan (Unit {0})
      rest = signal_each (resampled registry.irqfds gsi) (resample_events registry.irqfds gsi)

  -- ---- the redirection entry

  pub resend_tells : (cpus pin : ℕ) (message : Option Message) → Tells Kind 1 0 (resend cpus pin message)
  resend_tells cpus pin None = tells_more Kind 0 1 0 0 (done tt) (omega arith) refl (done_tells Kind tt)
  resend_tells cpus pin (Some message) =
      tells_before Kind 1 0 (λ answer. accept_pin pin (is_accepted message answer)) (send cpus message None (resent pin)) (send_tells Kind kind (resent pin) cpus message None)
      (λ answer. accept_pin_tells Kind kind pin (is_accepted message answer))

  level_tells : (cpus : ℕ) (pin : Pin) → Tells Kind (again_for pin) 0 (end_level cpus pin)
  level_tells cpus (pins.Pic pin) = done_tells Kind tt
  level_tells cpus (pins.Ioapic pin) = λ b ws h. by_part b.ioapic b ws h
    where
      by_part : (part : IoapicPart) → Tells Kind 1 0 (if (entry_at (ioapic_of part) pin).level then clear_and_resend cpus pin part else done tt)
      by_part part = elim ((entry_at (ioapic_of part) pin).level) as (λ t. Tells Kind 1 0 (if t then clear_and_resend cpus pin part else done tt)) [
        | true ↦ λ b ws h.
            let after = with_ioapic part (pin_acked (ioapic_of part) pin) in
            resend_tells cpus pin (resend_of (pin_acked (ioapic_of part) pin) pin) (with_part b parts.Ioapic after) ws (kind b parts.Ioapic after refl h)
        | false ↦ tells_more Kind 0 1 0 0 (done tt) (omega arith) refl (done_tells Kind tt)
      ]

  -- ---- a tick

  module _ (routing : Routing) (shape : Shape) where
    -- a tick that is injected shows once
    pub inject_tick_tells : (about : Option TargetAnswer → About) (i k : ℕ) → ((pic : Option TargetAnswer) → events_for (about pic) ≡ i) → ((pic : Option TargetAnswer) → answers_for (about pic) ≡ k) → Tells Kind i k (inject_tick routing shape about)
    inject_tick_tells about i k in_events in_answers =
        tells_before Kind i k (λ status. change parts.Tick (λ tick. tick_injected tick status)) (inject shape.cpus (routing.targets shape.tick) Tick about)
        (inject_tells Kind kind shape.cpus (routing.targets shape.tick) Tick about i k in_events in_answers)
        (λ status b ws h. done_tells Kind tt (with_part b parts.Tick (tick_injected b.tick status)) ws (kind b parts.Tick (tick_injected b.tick status) refl h))

    next_tells : (injects : Bool) → Tells Kind 1 0 (inject_next routing shape injects)
    next_tells true = inject_tick_tells (λ pic. injected shape.tick pic) 1 0 (λ _. refl) (λ _. refl)
    next_tells false = tells_more Kind 0 1 0 0 (done tt) (omega arith) refl (done_tells Kind tt)

    end_tick_tells : (gsi : Option ℕ) → Tells Kind (ticks_for shape gsi) 0 (end_tick routing shape gsi)
    end_tick_tells None = done_tells Kind tt
    end_tick_tells (Some gsi) = elim (nat_eq gsi shape.tick) as (λ t. Tells Kind (if t then 1 else 0) 0 (if t then acknowledge_tick routing shape else done tt)) [
      | true ↦ λ b ws h. next_tells (ack_injects b.tick) (with_part b parts.Tick (tick_acked b.tick)) ws (kind b parts.Tick (tick_acked b.tick) refl h)
      | false ↦ done_tells Kind tt
    ]

-- ---- with a registry

-- a write of another part leaves the registry
pub registry_kind : (registry : RegistryPart) → IsKind (HasRegistry registry)
registry_kind registry b p v other h = part_of-with_other b p parts.Registry v other ∙ h

module _ (routing : Routing) (shape : Shape) (registry : RegistryPart) where
  abbrev Kind : Board → Type 0
  Kind = HasRegistry registry

  concerned_tells : (gsi : ℕ) → Tells Kind (rows_for registry (Some gsi)) 0 (resample_and_notify routing gsi)
  concerned_tells gsi = λ b ws h.
      subst (λ (r : RegistryPart). Told Kind (rows_for registry (Some gsi)) 0 (run (resample (routing.targets gsi) gsi r >> notify gsi r) b ws)) (sym h)
      (tells_both Kind (length (resample_events registry.irqfds gsi)) (length (watch_events registry.watches gsi)) 0 0 (λ _. notify gsi registry) (resample (routing.targets gsi) gsi registry)
      (resample_tells Kind (registry_kind registry) (routing.targets gsi) gsi registry)
      (λ _. signal_tells Kind (registry_kind registry) (watched registry.watches gsi) (watch_events registry.watches gsi)) b ws h)

  concern_tells : (gsi : Option ℕ) → Tells Kind (rows_for registry gsi) 0 (tell_concerned routing gsi)
  concern_tells None = done_tells Kind tt
  concern_tells (Some gsi) = elim (routing.marked gsi) as (λ t. Tells Kind (rows_for registry (Some gsi)) 0 (if t then resample_and_notify routing gsi else done tt)) [
    | true ↦ concerned_tells gsi
    | false ↦ tells_more Kind 0 (rows_for registry (Some gsi)) 0 0 (done tt) (omega arith) refl (done_tells Kind tt)
  ]

  -- a pin that is acknowledged
  pub acknowledge_tells : (pin : Pin) → Tells Kind (acknowledge_events routing shape registry pin) 0 (acknowledge routing shape pin)
  acknowledge_tells pin =
      let gsi = routing.gsi_of pin in
      tells_more Kind (1 + (rows_for registry gsi + (again_for pin + ticks_for shape gsi))) (acknowledge_events routing shape registry pin) 0 0 (acknowledge routing shape pin) (omega arith) refl
      (tell_tells Kind (registry_kind registry) (rows_for registry gsi + (again_for pin + ticks_for shape gsi)) 0 (Acked pin gsi) (tell_concerned routing gsi >> (end_level shape.cpus pin >> end_tick routing shape gsi))
      (tells_both Kind (rows_for registry gsi) (again_for pin + ticks_for shape gsi) 0 0 (λ _. end_level shape.cpus pin >> end_tick routing shape gsi) (tell_concerned routing gsi) (concern_tells gsi)
      (λ _. tells_both Kind (again_for pin) (ticks_for shape gsi) 0 0 (λ _. end_tick routing shape gsi) (end_level shape.cpus pin) (level_tells Kind (registry_kind registry) shape.cpus pin)
      (λ _. end_tick_tells Kind (registry_kind registry) routing shape gsi))))

  -- pins that are acknowledged, one after another
  pub each_tells : (list : List Pin) → Tells Kind (each_events routing shape registry list) 0 (acknowledge_each routing shape list)
  each_tells [] = done_tells Kind tt
  each_tells (pin ∷ list) =
      tells_both Kind (acknowledge_events routing shape registry pin) (each_events routing shape registry list) 0 0 (λ _. acknowledge_each routing shape list) (acknowledge routing shape pin)
      (acknowledge_tells pin) (λ _. each_tells list)
