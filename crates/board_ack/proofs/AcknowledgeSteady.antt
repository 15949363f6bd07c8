-- Acknowledges and ticks keep to every manner that lets their sendings show in events.
use Rattle.std.proofs.Common.{◌≡◌, ℕ, Bool, true, false, not, nat_eq, if◌then◌else◌, List, [], ◌∷◌, map, refl, ap, ◌∙◌, Some, None}
use Rattle.std.specs.declared.option.Option.{Option}
use Rattle.irq_base.specs.declared.event.Event.{Event}
use Rattle.irq_base.specs.declared.event.Event.TheVariants.{Resampled, Watched}
use Rattle.irq_base.specs.declared.event.Pin.{Pin}
use Rattle.irq_base.specs.declared.event.Pin.TheVariants as pins
use Rattle.irq_base.specs.declared.message.Message.{Message}
use Rattle.irq_base.specs.declared.message.Source.TheVariants.{Resample, Tick}
use Rattle.irq_base.specs.declared.message.Targets.{Targets}
use Rattle.irq_base.specs.declared.shape.Part.TheVariants as parts
use Rattle.irq_base.specs.declared.shape.Shape.{Shape}
use Rattle.ioapic_82093aa.specs.Pins.{entry_at, pin_acked, resend_of}
use Rattle.irqfd_set.specs.Rows.{has_resampler}
use Rattle.resampler.specs.Resample.{resampled, resample_events}
use Rattle.ack_notifiers.specs.Rows.{watched, watch_events}
use Rattle.tick_reinject.specs.Ticks.{ack_injects, tick_injected}
use Rattle.board_model.specs.Registry.{RegistryPart}
use Rattle.board_model.specs.Routing.{Routing}
use Rattle.board_model.specs.Chips.{ioapic_of}
use Rattle.board_model.specs.Statuses.{nobody, TargetAnswer}
use Rattle.board_model.specs.Plan.{About, injected, resent, Plan, done, change, ◌>>◌}
use Rattle.board_raise.specs.Send.{send}
use Rattle.board_raise.specs.Signal.{is_accepted, accept_pin, let_go, inject}
use Rattle.board_raise.proofs.Manner.{Manner, shows_there, sets_told, Keeps, keeps_bind}
use Rattle.board_raise.proofs.SignalSteady.{accept_pin_keeps, send_keeps, let_go_keeps, inject_keeps}
use Rattle.board_ack.specs.Ticks.{inject_tick, inject_next, acknowledge_tick}
use Rattle.board_ack.specs.Acknowledge.{say_each, signal_each, resample, notify, resample_and_notify, tell_concerned, resend, clear_and_resend, end_level, end_tick, acknowledge, acknowledge_each}

-- none of the events shows a set
AreQuiet : List Event → Type 0
AreQuiet [] = Unit {0}
AreQuiet (event ∷ events) = (sets_told event ≡ nobody) × AreQuiet events

resamples_quiet : (counters : List ℕ) → AreQuiet (map Resampled counters)
unfolding AreQuiet
resamples_quiet [] = tt
resamples_quiet (counter ∷ counters) = (refl, resamples_quiet counters)

watches_quiet : (counters : List ℕ) → AreQuiet (map Watched counters)
unfolding AreQuiet
watches_quiet [] = tt
watches_quiet (counter ∷ counters) = (refl, watches_quiet counters)

module _ (w : Manner) where
  -- ---- steps 2 and 3

  say_keeps : (events : List Event) → AreQuiet events → Keeps w (say_each events)
  unfolding AreQuiet
  say_keeps [] quiet = tt
  say_keeps (event ∷ events) quiet = (quiet.0, say_keeps events quiet.1)

  signal_keeps : (counters : List ℕ) (events : List Event) → AreQuiet events → Keeps w (signal_each counters events)
  signal_keeps counters events quiet = λ counts. (refl, say_keeps events quiet)

  resample_keeps : (targets : Targets) (gsi : ℕ) (registry : RegistryPart) → Keeps w (resample targets gsi registry)
  resample_keeps targets gsi registry = elim (has_resampler registry.irqfds gsi) as (λ t. Keeps w (if not t then done tt else (let_go targets Resample >> rest))) [
    | true ↦ keeps_bind w (λ _. rest) (let_go targets Resample) (let_go_keeps w targets Resample) (λ _. signal_keeps (resampled registry.irqfds gsi) (resample_events registry.irqfds gsi) (resamples_quiet (resampled registry.irqfds gsi)))
    | false ↦ tt
  ]
    where
      rest : Plan (Unit {0})
      rest = signal_each (resampled registry.irqfds gsi) (resample_events registry.irqfds gsi)

  concerned_keeps : (routing : Routing) (gsi : ℕ) → Keeps w (resample_and_notify routing gsi)
  concerned_keeps routing gsi = λ registry counts tick pic ioapic.
      keeps_bind w (λ _. notify gsi registry) (resample (routing.targets gsi) gsi registry) (resample_keeps (routing.targets gsi) gsi registry)
      (λ _. signal_keeps (watched registry.watches gsi) (watch_events registry.watches gsi) (watches_quiet (watched registry.watches gsi)))

  tell_keeps : (routing : Routing) (gsi : Option ℕ) → Keeps w (tell_concerned routing gsi)
  tell_keeps routing None = tt
  tell_keeps routing (Some gsi) = elim (routing.marked gsi) as (λ t. Keeps w (if t then resample_and_notify routing gsi else done tt)) [ true ↦ concerned_keeps routing gsi | false ↦ tt ]

  -- ---- a tick

  pub tick_keeps : (routing : Routing) (shape : Shape) (about : Option TargetAnswer → About) → ((pic : Option TargetAnswer) → shows_there w (about pic) ≡ true) → Keeps w (inject_tick routing shape about)
  tick_keeps routing shape about there =
      keeps_bind w (λ status. change parts.Tick (λ tick. tick_injected tick status)) (inject shape.cpus (routing.targets shape.tick) Tick about)
      (inject_keeps w shape.cpus (routing.targets shape.tick) Tick about there) (λ status tick. (refl, tt))

  -- ---- where sendings show in events

  module _ (there : w.replies ≡ false) where
    pub in_event : (about : About) → shows_there (record w { replies = false }) about ≡ true → shows_there w about ≡ true
    in_event about h = ap (λ t. shows_there (record w { replies = t }) about) there ∙ h

    pub resend_keeps : (cpus pin : ℕ) (message : Option Message) → Keeps w (resend cpus pin message)
    resend_keeps cpus pin None = tt
    resend_keeps cpus pin (Some message) =
        keeps_bind w (λ answer. accept_pin pin (is_accepted message answer)) (send cpus message None (resent pin)) (send_keeps w (resent pin) (in_event (resent pin) refl) cpus message None)
        (λ answer. accept_pin_keeps w pin (is_accepted message answer))

    level_keeps : (cpus : ℕ) (pin : Pin) → Keeps w (end_level cpus pin)
    level_keeps cpus (pins.Pic pin) = tt
    level_keeps cpus (pins.Ioapic pin) = λ part. elim ((entry_at (ioapic_of part) pin).level) as (λ t. Keeps w (if t then clear_and_resend cpus pin part else done tt)) [
      | true ↦ (refl, resend_keeps cpus pin (resend_of (pin_acked (ioapic_of part) pin) pin))
      | false ↦ tt
    ]

    module _ (routing : Routing) (shape : Shape) where
      next_keeps : (injects : Bool) → Keeps w (inject_next routing shape injects)
      next_keeps true = tick_keeps routing shape (λ pic. injected shape.tick pic) (λ pic. in_event (injected shape.tick pic) refl)
      next_keeps false = tt

      end_tick_keeps : (gsi : Option ℕ) → Keeps w (end_tick routing shape gsi)
      end_tick_keeps None = tt
      end_tick_keeps (Some gsi) = elim (nat_eq gsi shape.tick) as (λ t. Keeps w (if t then acknowledge_tick routing shape else done tt)) [
        | true ↦ λ tick. (refl, next_keeps (ack_injects tick))
        | false ↦ tt
      ]

      acknowledge_keeps : (pin : Pin) → Keeps w (acknowledge routing shape pin)
      acknowledge_keeps pin = (
        refl,
        keeps_bind w (λ _. end_level shape.cpus pin >> end_tick routing shape (routing.gsi_of pin)) (tell_concerned routing (routing.gsi_of pin)) (tell_keeps routing (routing.gsi_of pin))
            (λ _. keeps_bind w (λ _. end_tick routing shape (routing.gsi_of pin)) (end_level shape.cpus pin) (level_keeps shape.cpus pin) (λ _. end_tick_keeps (routing.gsi_of pin))),
      )

      pub each_keeps : (pins : List Pin) → Keeps w (acknowledge_each routing shape pins)
      each_keeps [] = tt
      each_keeps (pin ∷ pins) = keeps_bind w (λ _. acknowledge_each routing shape pins) (acknowledge routing shape pin) (acknowledge_keeps pin) (λ _. each_keeps pins)
