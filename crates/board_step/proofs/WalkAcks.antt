-- Acknowledges: what holds of their parts holds of them.
use Rattle.board_step.proofs.Basics.{ℕ, Bool, true, false, not, nat_eq, if◌then◌else◌, List, [], ◌∷◌, map, Some, None, Option, signalled_all, Event, Acked, Resampled, Watched, Pin, Message, Resample, TickSource, Shape, Status, entry_at, pin_acked, resend_of, has_resampler, resampled, resample_events, watched, watch_events, ack_injects, tick_acked, tick_injected, Board, with_part, ioapic_of, with_ioapic, RegistryPart, Routing, TargetAnswer, About, injected, resent, done, say, change, ◌>>◌, send, is_accepted, accept_pin, let_go, inject, inject_tick, inject_next, acknowledge_tick, say_each, signal_each, resample, notify, resample_and_notify, tell_concerned, resend, clear_and_resend, end_level, end_tick, acknowledge, acknowledge_each, Part}
use Rattle.board_step.proofs.Walk.{Walk, Holds, Seen, ended, bound, after, either, either_at, looked, written, changed}
use Rattle.board_step.proofs.WalkSignals.{Shows, Signals, MayRaise, accept_pin_holds, let_go_holds, inject_holds}

module _ (w : Walk) where
  pub resend_holds : (cpus : ℕ) → Signals w → (pin : ℕ) → Shows w cpus (resent pin) → (message : Option Message) → Holds w (resend cpus pin message)
  resend_holds cpus s pin there None = ended w tt
  resend_holds cpus s pin there (Some message) = bound w (λ answer. accept_pin pin (is_accepted message answer)) (send cpus message None (resent pin)) (there.sends message None) (λ answer. accept_pin_holds w cpus s pin (is_accepted message answer))

  -- a tick is injected
  pub inject_tick_holds : (routing : Routing) (shape : Shape) → Signals w → MayRaise w (routing.targets shape.tick) TickSource → ((status : Status) (b : Board) → w.Fit b → w.May b Part.Tick (tick_injected b.tick status))
      → (about : Option TargetAnswer → About) → ((pic : Option TargetAnswer) → Shows w shape.cpus (about pic)) → Holds w (inject_tick routing shape about)
  inject_tick_holds routing shape s may frees about there =
      bound w (λ status. change Part.Tick (λ tick. tick_injected tick status)) (inject shape.cpus (routing.targets shape.tick) TickSource about) (inject_holds w shape.cpus s (routing.targets shape.tick) TickSource may about there)
      (λ status. changed w Part.Tick (λ tick. tick_injected tick status) (frees status))

  -- ---- steps 2 and 3

  -- what they need
  pub record Tells : Type 0 where
    pub resamples : (registry : RegistryPart) (gsi : ℕ) → Seen w Part.Registry registry → Holds w (signal_each (resampled registry.irqfds gsi) (resample_events registry.irqfds gsi))
    pub notifies : (registry : RegistryPart) (gsi : ℕ) → Seen w Part.Registry registry → Holds w (notify gsi registry)

  says_each : (event : ℕ → Event) → ((counter : ℕ) → Holds w (say (event counter))) → (counters : List ℕ) → Holds w (say_each (map event counters))
  says_each event said [] = ended w tt
  says_each event said (counter ∷ counters) = after w (say (event counter)) (say_each (map event counters)) (said counter) (says_each event said counters)

  -- where counters may be signalled, and the events may be told
  pub tells_by : ((counter : ℕ) → Holds w (say (Resampled counter))) → ((counter : ℕ) → Holds w (say (Watched counter)))
      → ((registry : RegistryPart) (gsi : ℕ) → Seen w Part.Registry registry → (b : Board) → w.Fit b → w.May b Part.Counters (signalled_all b.counters (resampled registry.irqfds gsi)))
      → ((registry : RegistryPart) (gsi : ℕ) → Seen w Part.Registry registry → (b : Board) → w.Fit b → w.May b Part.Counters (signalled_all b.counters (watched registry.watches gsi))) → Tells
  tells_by resampled_said watched_said resamples notifies = record {
    resamples = λ registry gsi seen. written w Part.Counters _ (λ _. say_each (resample_events registry.irqfds gsi)) (resamples registry gsi seen) (λ _. says_each Resampled resampled_said (resampled registry.irqfds gsi));
    notifies = λ registry gsi seen. written w Part.Counters _ (λ _. say_each (watch_events registry.watches gsi)) (notifies registry gsi seen) (λ _. says_each Watched watched_said (watched registry.watches gsi));
  }

  module _ (routing : Routing) (cpus : ℕ) (s : Signals w) (a : Tells) where
    resample_holds : (gsi : ℕ) (registry : RegistryPart) → Seen w Part.Registry registry → Holds w (resample (routing.targets gsi) gsi registry)
    resample_holds gsi registry seen =
        let signals = signal_each (resampled registry.irqfds gsi) (resample_events registry.irqfds gsi) in
        elim (has_resampler registry.irqfds gsi) as (λ t. Holds w (if not t then done tt else (let_go (routing.targets gsi) Resample >> signals))) [
          | true ↦ after w (let_go (routing.targets gsi) Resample) signals (let_go_holds w cpus s (routing.targets gsi) Resample) (a.resamples registry gsi seen)
          | false ↦ ended w tt
        ]

    told_holds : (gsi : ℕ) → Holds w (resample_and_notify routing gsi)
    told_holds gsi =
        looked w Part.Registry _ (λ registry seen. looked w Part.Counters _ (λ counts _. looked w Part.Tick _ (λ tick _. looked w Part.Pic _ (λ pic _. looked w Part.Ioapic _ (λ ioapic _.
        after w (resample (routing.targets gsi) gsi registry) (notify gsi registry) (resample_holds gsi registry seen) (a.notifies registry gsi seen))))))

    pub tell_holds : (gsi : Option ℕ) → Holds w (tell_concerned routing gsi)
    tell_holds None = ended w tt
    tell_holds (Some gsi) = either w (routing.marked gsi) (resample_and_notify routing gsi) (done tt) (told_holds gsi) (ended w tt)

  -- ---- steps 4 and 5

  pub end_level_holds : (cpus : ℕ) → Signals w → ((pin : ℕ) → Shows w cpus (resent pin)) → ((pin : ℕ) (b : Board) → w.Fit b → w.May b Part.Ioapic (with_ioapic b.ioapic (pin_acked (ioapic_of b.ioapic) pin))) → (pin : Pin) → Holds w (end_level cpus pin)
  end_level_holds cpus s resends clears (Pin.Pic pin) = ended w tt
  end_level_holds cpus s resends clears (Pin.Ioapic pin) = λ b ws fit. w.looks Part.Ioapic (λ part. if (entry_at (ioapic_of part) pin).level then clear_and_resend cpus pin part else done tt) b ws
      (either_at w (entry_at (ioapic_of b.ioapic) pin).level (clear_and_resend cpus pin b.ioapic) (done tt) b ws
      (w.puts Part.Ioapic (with_ioapic b.ioapic (pin_acked (ioapic_of b.ioapic) pin)) (resend cpus pin (resend_of (pin_acked (ioapic_of b.ioapic) pin) pin)) b ws fit (clears pin b fit)
      (resend_holds cpus s pin (resends pin) (resend_of (pin_acked (ioapic_of b.ioapic) pin) pin) (with_part b Part.Ioapic (with_ioapic b.ioapic (pin_acked (ioapic_of b.ioapic) pin))) ws))
      (w.ends tt b ws fit))

  module _ (routing : Routing) (shape : Shape) where
    -- what they need
    pub record Ends : Type 0 where
      pub levels : (pin : Pin) → Holds w (end_level shape.cpus pin)
      pub frees : (b : Board) → w.Fit b → w.May b Part.Tick (tick_acked b.tick)
      pub ticks : Holds w (inject_tick routing shape (λ pic. injected shape.tick pic))

    module _ (a : Ends) where
      inject_next_holds : (injects : Bool) → Holds w (inject_next routing shape injects)
      inject_next_holds true = a.ticks
      inject_next_holds false = ended w tt

      pub end_tick_holds : (gsi : Option ℕ) → Holds w (end_tick routing shape gsi)
      end_tick_holds None = ended w tt
      end_tick_holds (Some gsi) = either w (nat_eq gsi shape.tick) (acknowledge_tick routing shape) (done tt)
          (written w Part.Tick tick_acked (λ tick. inject_next routing shape (ack_injects tick)) a.frees (λ tick. inject_next_holds (ack_injects tick))) (ended w tt)

    -- ---- all five

    module _ (acked : (pin : Pin) → Holds w (say (Acked pin (routing.gsi_of pin)))) (s : Signals w) (tells : Tells) (a : Ends) where
      acknowledge_holds : (pin : Pin) → Holds w (acknowledge routing shape pin)
      acknowledge_holds pin =
          let gsi = routing.gsi_of pin in
          let last = end_tick routing shape gsi in
          after w (say (Acked pin gsi)) (tell_concerned routing gsi >> (end_level shape.cpus pin >> last)) (acked pin)
          (after w (tell_concerned routing gsi) (end_level shape.cpus pin >> last) (tell_holds routing shape.cpus s tells gsi) (after w (end_level shape.cpus pin) last (a.levels pin) (end_tick_holds a gsi)))

      pub acks_hold : (pins : List Pin) → Holds w (acknowledge_each routing shape pins)
      acks_hold [] = ended w tt
      acks_hold (pin ∷ pins) = after w (acknowledge routing shape pin) (acknowledge_each routing shape pins) (acknowledge_holds pin) (acks_hold pins)
