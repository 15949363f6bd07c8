-- An acknowledge runs alike on boards that are alike.
use Rattle.std.proofs.Common.{◌≡◌, ℕ, Bool, true, false, not, ◌&&◌, ◌||◌, nat_eq, nat_lt, ◌-◌, if◌then◌else◌, List, [], ◌∷◌, refl, sym, ◌∙◌, subst, Some, None}
use Rattle.std.specs.declared.option.Option.{Option}
use Rattle.irq_base.specs.declared.event.Event.{Event}
use Rattle.irq_base.specs.declared.event.Pin.{Pin}
use Rattle.irq_base.specs.declared.event.Pin.TheVariants as pins
use Rattle.irq_base.specs.declared.message.Message.{Message}
use Rattle.irq_base.specs.declared.message.MsiWord.{MsiWord}
use Rattle.irq_base.specs.declared.message.Source.TheVariants as sources
use Rattle.irq_base.specs.declared.message.Targets.{Targets}
use Rattle.irq_base.specs.declared.shape.Part.{Part}
use Rattle.irq_base.specs.declared.shape.Part.TheVariants.{Counters, Tick, Ioapic, Lapic}
use Rattle.irq_base.specs.declared.shape.Shape.{Shape}
use Rattle.ioapic_82093aa.specs.Pins.{entry_at, pin_acked, resend_of}
use Rattle.irqfd_set.specs.Rows.{has_resampler}
use Rattle.ack_notifiers.specs.Rows.{watched, watch_events}
use Rattle.irq_base.specs.Counts.{signalled_all}
use Rattle.resampler.specs.Resample.{resampled, resample_events}
use Rattle.tick_reinject.specs.declared.state.TickState.{TickState}
use Rattle.tick_reinject.specs.Ticks.{tick_acked, tick_injected, ack_injects}
use Rattle.irq_base.specs.declared.status.Status.{Status}
use Rattle.board_model.specs.Board.{Board, with_part}
use Rattle.board_model.specs.Chips.{IoapicPart, ioapic_of}
use Rattle.board_model.specs.Registry.{RegistryPart}
use Rattle.board_model.specs.Routing.{Routing}
use Rattle.board_model.specs.Statuses.{TargetAnswer}
use Rattle.board_model.specs.Plan.{About, injected, resent, Plan, done, see, ◌>>◌}
use Rattle.board_model.specs.Run.{Wishes, Outcome, run, reaches}
use Rattle.board_model.proofs.Sequence.{reaches-bind}
use Rattle.board_raise.specs.Send.{send}
use Rattle.board_raise.specs.Signal.{is_accepted, accept_pin, let_go, inject}
use Rattle.board_ack.specs.Acknowledge.{say_each, signal_each, see_concerned, resample, notify, resample_and_notify, tell_concerned, resend, clear_and_resend, end_level, end_tick, acknowledge}
use Rattle.board_ack.specs.Ticks.{inject_tick, inject_next, acknowledge_tick}
use Rattle.board_raise.proofs.ReachAlike.{alike_counters, alike_ioapic, alike_tick, EndsAlike, RunAlike, Whatever, alike-bind, done_alike, SameCause, send_alike, accepted_alike, accept_alike, let_go_alike, inject_alike}

-- ---- an acknowledge on boards that are alike

say_each_alike : (events : List Event) → RunAlike Whatever (say_each events) (say_each events)
say_each_alike [] = done_alike tt tt
say_each_alike (event ∷ events) = λ b c ws vs h.
    let later = say_each_alike events b c ws vs h in
    record { value = tt; boards = later.boards }

signal_each_alike : (counters : List ℕ) (events : List Event) → RunAlike Whatever (signal_each counters events) (signal_each counters events)
signal_each_alike counters events = λ b c ws vs h. say_each_alike events _ _ ws vs (alike_counters h _ _)

resample_alike : (targets : Targets) (gsi : ℕ) (registry : RegistryPart) → RunAlike Whatever (resample targets gsi registry) (resample targets gsi registry)
resample_alike targets gsi registry = by_test (not (has_resampler registry.irqfds gsi)) (resampled registry.irqfds gsi) (resample_events registry.irqfds gsi)
  where
    by_test : (t : Bool) (counters : List ℕ) (events : List Event) → RunAlike Whatever (if t then done tt else (let_go targets sources.Resample >> signal_each counters events)) (if t then done tt else (let_go targets sources.Resample >> signal_each counters events))
    by_test true counters events = done_alike tt tt
    by_test false counters events = alike-bind Whatever Whatever _ _ (let_go targets sources.Resample) (let_go targets sources.Resample) (let_go_alike targets sources.Resample) (λ _ _ _. signal_each_alike counters events)

say_each_reach : (q : Part) (events : List Event) (b : Board) (ws : Wishes) → reaches (say_each events) b ws q ≡ false
say_each_reach q [] b ws = refl
say_each_reach q (event ∷ events) b ws = say_each_reach q events b ws

module _ (routing : Routing) (shape : Shape) where
  pub concerned_alike : (gsi : ℕ) → RunAlike Whatever (resample_and_notify routing gsi) (resample_and_notify routing gsi)
  concerned_alike gsi =
      alike-bind (λ (x y : RegistryPart). x ≡ y) Whatever f f see_concerned see_concerned (λ b c ws vs h. record { value = h.registry; boards = h })
      (λ x y same. subst (λ r. RunAlike Whatever (f x) (f r)) same
      (alike-bind Whatever Whatever _ _ (resample (routing.targets gsi) gsi x) (resample (routing.targets gsi) gsi x) (resample_alike (routing.targets gsi) gsi x) (λ _ _ _. signal_each_alike (watched x.watches gsi) (watch_events x.watches gsi))))
    where
      f : RegistryPart → Plan (Unit {0})
      f registry = resample (routing.targets gsi) gsi registry >> notify gsi registry

  pub tell_alike : (gsi : Option ℕ) → RunAlike Whatever (tell_concerned routing gsi) (tell_concerned routing gsi)
  tell_alike None = done_alike tt tt
  tell_alike (Some gsi) = elim (routing.marked gsi) as (λ t. RunAlike Whatever (if t then resample_and_notify routing gsi else done tt) (if t then resample_and_notify routing gsi else done tt)) [
    | true ↦ concerned_alike gsi
    | false ↦ done_alike tt tt
  ]

  resend_alike : (cpus pin : ℕ) (message : Option Message) → RunAlike Whatever (resend cpus pin message) (resend cpus pin message)
  resend_alike cpus pin None = done_alike tt tt
  resend_alike cpus pin (Some message) =
      alike-bind SameCause Whatever _ _ (send cpus message None (resent pin)) (send cpus message None (resent pin)) (send_alike cpus message None (resent pin) (resent pin))
      (λ x y same. subst (λ t. RunAlike Whatever (accept_pin pin (is_accepted message x)) (accept_pin pin t)) (accepted_alike message x y same) (accept_alike pin (is_accepted message x)))

  pub level_alike : (cpus : ℕ) (pin : Pin) → RunAlike Whatever (end_level cpus pin) (end_level cpus pin)
  level_alike cpus (pins.Pic pin) = done_alike tt tt
  level_alike cpus (pins.Ioapic pin) =
      alike-bind (λ (x y : IoapicPart). x ≡ y) Whatever f f (see Ioapic) (see Ioapic) (λ b c ws vs h. record { value = h.ioapic; boards = h })
      (λ x y same. subst (λ p. RunAlike Whatever (f x) (f p)) same (by_test x))
    where
      f : IoapicPart → Plan (Unit {0})
      f part = if (entry_at (ioapic_of part) pin).level then clear_and_resend cpus pin part else done tt

      by_test : (part : IoapicPart) → RunAlike Whatever (f part) (f part)
      by_test part = elim (entry_at (ioapic_of part) pin).level as (λ t. RunAlike Whatever (if t then clear_and_resend cpus pin part else done tt) (if t then clear_and_resend cpus pin part else done tt)) [
        | true ↦ λ b c ws vs h. resend_alike cpus pin (resend_of (pin_acked (ioapic_of part) pin) pin) _ _ ws vs (alike_ioapic h _ _ refl)
        | false ↦ done_alike tt tt
      ]

  -- the status of a tick tells whether its state is free, and no more
  injected_reinjects : (tick : TickState) (status : Status) → (tick_injected tick status).reinjects ≡ tick.reinjects
  injected_reinjects tick status = by_mode tick.reinjects _
    where
      by_mode : (t free : Bool) → (if t then record tick { free = free } else tick).reinjects ≡ tick.reinjects
      by_mode true free = refl
      by_mode false free = refl

  injected_pending : (tick : TickState) (status : Status) → (tick_injected tick status).pending ≡ tick.pending
  injected_pending tick status = by_mode tick.reinjects _
    where
      by_mode : (t free : Bool) → (if t then record tick { free = free } else tick).pending ≡ tick.pending
      by_mode true free = refl
      by_mode false free = refl

  inject_tick_alike : (about : Option TargetAnswer → About) → RunAlike Whatever (inject_tick routing shape about) (inject_tick routing shape about)
  inject_tick_alike about =
      alike-bind Whatever Whatever _ _ (inject shape.cpus (routing.targets shape.tick) sources.Tick about) (inject shape.cpus (routing.targets shape.tick) sources.Tick about) (inject_alike shape.cpus (routing.targets shape.tick) sources.Tick about)
      (λ x y _ b c ws vs h. record {
        value = tt;
        boards = alike_tick h _ _
            (injected_reinjects b.tick x ∙ h.reinjects ∙ sym (injected_reinjects c.tick y))
            (injected_pending b.tick x ∙ h.pending ∙ sym (injected_pending c.tick y));
      })

  next_alike : (t : Bool) → RunAlike Whatever (inject_next routing shape t) (inject_next routing shape t)
  next_alike true = inject_tick_alike (λ pic. injected shape.tick pic)
  next_alike false = done_alike tt tt

  pub injects_alike : (t u : TickState) → t.reinjects ≡ u.reinjects → t.pending ≡ u.pending → ack_injects t ≡ ack_injects u
  injects_alike t u reinjects pending = λ i. reinjects i && nat_lt 1 (pending i)

  acked_reinjects : (tick : TickState) → (tick_acked tick).reinjects ≡ tick.reinjects
  acked_reinjects tick = by_mode tick.reinjects
    where
      by_mode : (t : Bool) → (if t then record tick { pending = tick.pending - 1; free = true } else tick).reinjects ≡ tick.reinjects
      by_mode true = refl
      by_mode false = refl

  acked_pending : (t u : TickState) → t.reinjects ≡ u.reinjects → t.pending ≡ u.pending → (tick_acked t).pending ≡ (tick_acked u).pending
  acked_pending t u reinjects pending = by_mode t ∙ (λ i. if reinjects i then pending i - 1 else pending i) ∙ sym (by_mode u)
    where
      by_mode : (tick : TickState) → (tick_acked tick).pending ≡ (if tick.reinjects then tick.pending - 1 else tick.pending)
      by_mode tick = elim tick.reinjects as (λ t. (if t then record tick { pending = tick.pending - 1; free = true } else tick).pending ≡ (if t then tick.pending - 1 else tick.pending)) [ true ↦ refl | false ↦ refl ]

  acknowledge_tick_alike : RunAlike Whatever (acknowledge_tick routing shape) (acknowledge_tick routing shape)
  acknowledge_tick_alike = λ b c ws vs h.
      subst (λ t. EndsAlike Whatever (run (inject_next routing shape (ack_injects b.tick)) (with_part b Tick (tick_acked b.tick)) ws) (run (inject_next routing shape t) (with_part c Tick (tick_acked c.tick)) vs)) (injects_alike b.tick c.tick h.reinjects h.pending)
      (next_alike (ack_injects b.tick) _ _ ws vs (alike_tick h _ _ (acked_reinjects b.tick ∙ h.reinjects ∙ sym (acked_reinjects c.tick)) (acked_pending b.tick c.tick h.reinjects h.pending)))

  end_tick_alike : (gsi : Option ℕ) → RunAlike Whatever (end_tick routing shape gsi) (end_tick routing shape gsi)
  end_tick_alike None = done_alike tt tt
  end_tick_alike (Some gsi) = elim (nat_eq gsi shape.tick) as (λ t. RunAlike Whatever (if t then acknowledge_tick routing shape else done tt) (if t then acknowledge_tick routing shape else done tt)) [
    | true ↦ acknowledge_tick_alike
    | false ↦ done_alike tt tt
  ]

  pub told_level_alike : (gsi : Option ℕ) (pin : Pin) → RunAlike Whatever (tell_concerned routing gsi >> end_level shape.cpus pin) (tell_concerned routing gsi >> end_level shape.cpus pin)
  told_level_alike gsi pin = alike-bind Whatever Whatever _ _ (tell_concerned routing gsi) (tell_concerned routing gsi) (tell_alike gsi) (λ _ _ _. level_alike shape.cpus pin)

  pub acknowledge_alike : (pin : Pin) → RunAlike Whatever (acknowledge routing shape pin) (acknowledge routing shape pin)
  acknowledge_alike pin = λ b c ws vs h.
      let later = alike-bind Whatever Whatever _ _ (tell_concerned routing (routing.gsi_of pin)) (tell_concerned routing (routing.gsi_of pin)) (tell_alike (routing.gsi_of pin))
      (λ _ _ _. alike-bind Whatever Whatever _ _ (end_level shape.cpus pin) (end_level shape.cpus pin) (level_alike shape.cpus pin) (λ _ _ _. end_tick_alike (routing.gsi_of pin))) b c ws vs h in
      record { value = tt; boards = later.boards }

  -- to tell those whom a GSI concerns reaches no local APIC
  let_go_none : (pic ioapic : Option ℕ) (msi : Option MsiWord) (n : ℕ) (b : Board) (ws : Wishes) → reaches (let_go (record { pic = pic; ioapic = ioapic; msi = msi }) sources.Resample) b ws (Lapic n) ≡ false
  let_go_none None None msi n b ws = refl
  let_go_none (Some p) None msi n b ws = refl
  let_go_none None (Some p) msi n b ws = refl
  let_go_none (Some m) (Some p) msi n b ws = refl

  neither : (x y : Bool) → x ≡ false → y ≡ false → (x || y) ≡ false
  neither true y e f = e
  neither false y e f = f

  resample_none : (gsi : ℕ) (registry : RegistryPart) (n : ℕ) (b : Board) (ws : Wishes) → reaches (resample (routing.targets gsi) gsi registry) b ws (Lapic n) ≡ false
  resample_none gsi registry n b ws = by_test (not (has_resampler registry.irqfds gsi)) (resampled registry.irqfds gsi) (resample_events registry.irqfds gsi)
    where
      by_test : (t : Bool) (counters : List ℕ) (events : List Event) → reaches (if t then done tt else (let_go (routing.targets gsi) sources.Resample >> signal_each counters events)) b ws (Lapic n) ≡ false
      by_test true counters events = refl
      by_test false counters events =
          reaches-bind (λ _. signal_each counters events) (let_go (routing.targets gsi) sources.Resample) b ws (Lapic n)
          ∙ neither _ _ (let_go_none (routing.targets gsi).pic (routing.targets gsi).ioapic (routing.targets gsi).msi n b ws) (say_each_reach (Lapic n) events _ _)

  pub concerned_none : (gsi n : ℕ) (b : Board) (ws : Wishes) → reaches (resample (routing.targets gsi) gsi b.registry >> notify gsi b.registry) b ws (Lapic n) ≡ false
  concerned_none gsi n b ws =
      reaches-bind (λ _. notify gsi b.registry) (resample (routing.targets gsi) gsi b.registry) b ws (Lapic n)
      ∙ neither _ _ (resample_none gsi b.registry n b ws) (say_each_reach (Lapic n) (watch_events b.registry.watches gsi)
      (with_part told.board Counters (signalled_all told.board.counters (watched b.registry.watches gsi))) told.wishes)
    where
      told : Outcome (Unit {0})
      told = run (resample (routing.targets gsi) gsi b.registry) b ws
