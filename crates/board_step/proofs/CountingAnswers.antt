-- Each call answers exactly once, and on a sound board it tells at most 560 events.
use Rattle.board_step.proofs.Basics.{◌≡◌, ℕ, ◌+◌, ◌≤◌, List, [], ◌∷◌, length, map, refl, subst, arith, Pin, Shape, Call, Caller, Event, Reply, has_vector, Board, Wishes, run, RegistryPart, Routing, routing_of_registry, all_pins, IoapicPin as Ioapic, Told, each_events, plan_on, counted, IsSound, AnswersOnce, AlwaysAnswers, StepsTellFew}
use Rattle.board_step.proofs.CountingCalls.{Any, Bounds, call_tells}
use Rattle.board_step.proofs.CountingRows.{resamplers, each_events-apart, each_events-some}
use Rattle.board_step.proofs.CountingTriggers.{few_resamplers}
use Rattle.board_step.proofs.CountingPins.{ioapic_apart, FewOfPair, pin_of_pair, cycle_of_pair}

-- the events of a call, at most, with this registry
abbrev pub most_events : RegistryPart → ℕ
most_events registry = 49 + resamplers registry + length registry.watches

module _ (shape : Shape) (registry : RegistryPart) (tick : ℕ) where
  abbrev routing : Routing
  routing = routing_of_registry registry tick

  few_events : (pins : List Pin) → FewOfPair registry.table pins → each_events routing shape registry pins ≤ most_events registry
  few_events pins few = omega (arith, each_events-apart routing shape registry pins few.apart, few.few, few.never_again)

  all_events : each_events routing shape registry (map Ioapic all_pins) ≤ most_events registry
  unfolding all_pins
  all_events = omega (arith, each_events-apart routing shape registry (map Ioapic all_pins) (ioapic_apart registry.table 24))

  -- the events of any call are no more
  pub registry_bounds : Bounds routing shape registry (most_events registry)
  registry_bounds = record {
    few = omega arith;
    ended = λ chip vector. omega (arith, all_events, each_events-some routing shape registry Ioapic (λ pin. has_vector chip pin vector) all_pins);
    one = λ pin. few_events _ (pin_of_pair registry.table pin);
    cycled = λ pair. few_events _ (cycle_of_pair registry.table pair);
  }

-- what a call tells on a board
told_of : (b : Board) (caller : Caller) (call : Call) (ws : Wishes) → Told Any (most_events b.registry) 1 (run (plan_on b caller call) b ws)
told_of b caller call ws = call_tells (routing_of_registry b.registry b.shape.tick) b.shape b.registry (most_events b.registry) (registry_bounds b.shape b.registry b.shape.tick) caller call b ws refl

-- each call answers exactly once
pub answers_once : AnswersOnce
answers_once b caller call ws = (told_of b caller call ws).answers_exactly

-- ---- on a sound board

-- 24 pins with one event each, 24 sent again, 255 irqfds, 256 notifiers and one tick
sound_events : (b : Board) → IsSound b → most_events b.registry ≤ 560
sound_events b sound = omega (arith, few_resamplers b.shape.counters b.registry sound.limits.counters sound.named sound.distinct, sound.distinct.watch_count)

only_one : (answers : List Reply) → length answers ≡ 1 → (r : Reply) × (answers ≡ r ∷ [])
only_one [] h = absurd (omega (arith, h))
only_one (r ∷ []) h = (r, refl)
only_one (r ∷ s ∷ rest) h = absurd (omega (arith, h))

-- each call that is allowed and that no limit bars has a step, that of no wishes
pub always_answers : AlwaysAnswers
always_answers b caller call sound allowed free =
    let o = run (plan_on b caller call) b [] in
    let t : Told Any (most_events b.registry) 1 o = told_of b caller call [] in
    let one = only_one o.log.answers t.answers_exactly in
    record {
      reply = one.0;
      events = o.log.events;
      next = counted b call o.board;
      step = record { allowed = allowed; in_limits = free; wishes = []; replied = one.1; told = refl; leads = refl };
      bounded = omega (arith, t.events_at_most, sound_events b sound);
    }

-- a step from a sound board tells few events, whatever was wished
pub steps_tell_few : StepsTellFew
steps_tell_few b e c sound s =
    subst (λ (events : List Event). length events ≤ 560) s.told (omega (arith, (told_of b e.caller e.call s.wishes).events_at_most, sound_events b sound))
