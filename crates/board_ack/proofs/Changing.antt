-- What an acknowledge changes of the parts in hand, and which counters it signals.
use Rattle.std.proofs.Common.{◌≡◌, ℕ, ◌<◌, ◌≤◌, ◌-◌, Bool, true, false, nat_eq, nat_lt, cond, ◌&&◌, if◌then◌else◌, List, [], ◌∷◌, length, map, filter, All, Some, None, Ok, Err, refl, sym, ap, ◌∙◌, subst, arith, length-set}
use Rattle.std.specs.Prelude.{Result, IfSome, is_some, option_map}
use Rattle.std.specs.List.{cons_option}
use Rattle.std.proofs.lemmas.List.Elements.{All-head, All-tail, All-cons}
use Rattle.std.specs.declared.option.Option.{Option}
use Rattle.irq_base.specs.declared.event.Event.{Event}
use Rattle.irq_base.specs.declared.shape.Part.{Part}
use Rattle.irq_base.specs.declared.shape.Part.TheVariants.{Registry, Counters, Tick, Pic, Ioapic, Lapic}
use Rattle.irq_base.specs.declared.status.Status.{Status}
use Rattle.irq_base.specs.Counts.{signalled, signalled_all}
use Rattle.irq_base.specs.Room.{with_told}
use Rattle.irqfd_set.specs.declared.irqfds.Irqfd.{Irqfd}
use Rattle.ack_notifiers.specs.declared.watches.Watch.{Watch}
use Rattle.resampler.specs.Resample.{resample_of, resampled}
use Rattle.ack_notifiers.specs.Rows.{watched}
use Rattle.tick_reinject.specs.declared.state.TickState.{TickState}
use Rattle.tick_reinject.specs.Ticks.{tick_acked, tick_injected, is_ignored}
use Rattle.board_model.specs.Registry.{RegistryPart}
use Rattle.board_model.specs.Hand.{Parts, part_in}
use Rattle.board_model.specs.Run.{Wishes, run_on}
use Rattle.board_raise.specs.declared.lacks.Lacks.{Lacks}
use Rattle.board_raise.specs.declared.parts.Parts as code
use Rattle.board_raise.specs.declared.parts.RegistryPart as registry
use Rattle.board_raise.specs.Fit.{IrqfdFits, WatchFits}
use Rattle.board_raise.specs.InHand.{registry_of, parts_of}
use Rattle.board_raise.proofs.Composing.{ends_as}
use Rattle.board_ack.specs.Acknowledge.{signal_each}
use Rattle.board_ack.specs.OnHand.{Adds, OnlyAcked}
use Rattle.board_ack.proofs.Adding.{ends_adds, signals_each}

-- ---- the counters are there

none_below : (n : ℕ) → All (λ c. c < n) []
none_below n = λ k d h. absurd (omega (arith, h))

below_rest : (n : ℕ) (c : Option ℕ) (rest : List ℕ) → IfSome c (λ c. c < n) → All (λ c. c < n) rest → All (λ c. c < n) (cons_option c rest)
below_rest n None rest here later = later
below_rest n (Some c) rest here later = All-cons (λ c. c < n) c rest here later

pub resamplers_below : (n : ℕ) (rows : List Irqfd) (gsi : ℕ) → All (IrqfdFits n) rows → All (λ c. c < n) (resampled rows gsi)
resamplers_below n [] gsi fits = none_below n
resamplers_below n (row ∷ rows) gsi fits =
    below_rest n (resample_of gsi row) (resampled rows gsi) (by (nat_eq row.gsi gsi) row.resample (All-head (IrqfdFits n) row rows fits).resample)
    (resamplers_below n rows gsi (All-tail (IrqfdFits n) row rows fits))
  where
    by : (t : Bool) (c : Option ℕ) → IfSome c (λ c. c < n) → IfSome (if t then c else None) (λ c. c < n)
    by true c h = h
    by false c h = tt

below_kept : (n : ℕ) (row : Watch) (rows : List Watch) (t : Bool) → row.counter < n → All (λ c. c < n) (map (λ (r : Watch). r.counter) rows) → All (λ c. c < n) (map (λ (r : Watch). r.counter) (cond t (row ∷ rows) rows))
below_kept n row rows true here later = All-cons (λ c. c < n) row.counter (map (λ (r : Watch). r.counter) rows) here later
below_kept n row rows false here later = later

pub watchers_below : (n : ℕ) (rows : List Watch) (gsi : ℕ) → All (WatchFits n) rows → All (λ c. c < n) (watched rows gsi)
watchers_below n [] gsi fits = none_below n
watchers_below n (row ∷ rows) gsi fits =
    below_kept n row (filter (λ (r : Watch). nat_eq r.gsi gsi) rows) (nat_eq row.gsi gsi) (All-head (WatchFits n) row rows fits).counter (watchers_below n rows gsi (All-tail (WatchFits n) row rows fits))

-- ---- what is changed

length-signalled : (counts cs : List ℕ) → length (signalled_all counts cs) ≡ length counts
length-signalled counts [] = refl
length-signalled counts (c ∷ cs) = length-signalled (signalled counts c) cs ∙ length-set counts c _

module _ (p : code.Parts) where
  pub only_counters : (counts more cs : List ℕ) → p.counters ≡ Some counts → more ≡ signalled_all counts cs → OnlyAcked p (record p { counters = Some more })
  only_counters counts more cs there is = record {
    held = held;
    registry = refl;
    counters = ap (λ n. Some n) (ap length is ∙ length-signalled counts cs) ∙ sym (ap (option_map length) there);
    tick = λ limit h. h;
    places = refl;
    numbers = λ n. refl;
  }
    where
      held : (part : Part) → is_some (part_in (parts_of (record p { counters = Some more })) part) ≡ is_some (part_in (parts_of p) part)
      held Registry = refl
      held Counters = sym (ap is_some there)
      held Tick = refl
      held Pic = refl
      held Ioapic = refl
      held (Lapic n) = refl

  pub only_tick : (before after : TickState) → p.tick ≡ Some before → ((limit : ℕ) → before.pending ≤ limit → after.pending ≤ limit) → OnlyAcked p (record p { tick = Some after })
  only_tick before after there less = record {
    held = held;
    registry = refl;
    counters = refl;
    tick = λ limit h. less limit (subst (λ (t : Option TickState). IfSome t (λ s. s.pending ≤ limit)) there h);
    places = refl;
    numbers = λ n. refl;
  }
    where
      held : (part : Part) → is_some (part_in (parts_of (record p { tick = Some after })) part) ≡ is_some (part_in (parts_of p) part)
      held Registry = refl
      held Counters = refl
      held Tick = sym (ap is_some there)
      held Pic = refl
      held Ioapic = refl
      held (Lapic n) = refl

  -- the registry of the model is that of the code
  pub registry_is : (reg : registry.RegistryPart) (r : RegistryPart) → p.registry ≡ Some reg → (parts_of p).registry ≡ Some r → r ≡ registry_of reg
  registry_is reg r there model = same (sym model ∙ ap (option_map registry_of) there)
    where
      same : Some r ≡ Some (registry_of reg) → r ≡ registry_of reg
      same e = cc

  pub signals_add : (counts more cs : List ℕ) (es old new : List Event) (ws : Wishes) → p.counters ≡ Some counts → more ≡ signalled_all counts cs → new ≡ with_told old es
      → Adds (Ok tt) old new (parts_of (record p { counters = Some more })) ws (run_on (signal_each cs es) (parts_of p) ws)
  signals_add counts more cs es old new ws there is tells =
      ends_adds es old new (parts_of (record p { counters = Some more })) ws (run_on (signal_each cs es) (parts_of p) ws) tells
      (ends_as tt es [] (parts_of (record p { counters = Some more })) (record (parts_of p) { counters = Some (signalled_all counts cs) }) ws ws (ap (λ (m : List ℕ). record (parts_of p) { counters = Some m }) is) refl
      (run_on (signal_each cs es) (parts_of p) ws) (signals_each (parts_of p) ws counts cs es there))

-- ---- ticks

pub acked_less : (before after : TickState) → after ≡ tick_acked before → (limit : ℕ) → before.pending ≤ limit → after.pending ≤ limit
acked_less before after is limit h = subst (λ (t : TickState). t.pending ≤ limit) (sym is) (by before.reinjects)
  where
    by : (t : Bool) → (if t then record before { pending = before.pending - 1; free = true } else before).pending ≤ limit
    by true = let less : before.pending - 1 ≤ limit = omega (arith, h) in less
    by false = h

pub injected_same : (before after : TickState) (status : Status) → after ≡ tick_injected before status → (limit : ℕ) → before.pending ≤ limit → after.pending ≤ limit
injected_same before after status is limit h = subst (λ (t : TickState). t.pending ≤ limit) (sym is) (by before.reinjects)
  where
    by : (t : Bool) → (if t then record before { free = is_ignored status } else before).pending ≤ limit
    by true = h
    by false = h
