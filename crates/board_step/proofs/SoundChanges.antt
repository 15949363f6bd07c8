-- The calls that change the registry lead from a sound board to one.
use Rattle.board_step.proofs.Walks.{Holds, after, inject_count_holds, shows}
use Rattle.board_step.proofs.Basics.{◌≡◌, ℕ, ◌<◌, ◌≤◌, zero, suc, Bool, true, false, not, ◌||◌, nat_eq, nat_lt, nat_le, inl, inr, List, [], ◌∷◌, ◌++◌, length, get_or, filter, All, Some, None, refl, sym, subst, ◌∙◌, arith, length-append, IsTrue, is_some, AllPairs, slice_get, slice_set, slice_index, list_any, Option, eqb_tells, All-push, All-filter, All-weaker, list_any-append, AllPairs-filter, first_of, Pin, Refusal, Busy, RoleClash, Full, Done, Shape, Irqfd, Watch, IoRow, targets_of, taken, RegistryPart, routing_of_registry, IsSoundIrqfd, Board, injected, Plan, reply, ◌>>◌, Wishes, run, IrqfdFits, WatchFits, is_trigger, is_counter, has_resample, is_signalled, resample_clashes, assign_reasons, attach_reasons, detach_reasons, watch_reasons, unwatch_reasons, unless_refused, source_of, inject_count, assign, attach, detach, watch, unwatch, IfSome, Exists, no_reason, HasResampler, Part, has_trigger, has_resampler, resamples, is_same_ioevent, do_collide, is_named_watch, has_watch_row, has_counter}
use Rattle.board_step.proofs.SoundCounts.{CountsFine, counts_taken}
use Rattle.board_step.proofs.SoundPlans.{Each}
use Rattle.board_step.proofs.SoundSends.{MayHold}
use Rattle.board_step.proofs.SoundRegistry.{RegistryFine, may_hold}
use Rattle.board_step.proofs.SoundCalls.{resamples_if, sound, may_raise, signals_keep, sound_signals}
use Rattle.board_step.proofs.SoundRows.{or_neither, or_both, each_fails, pairs_push, none_fewer, length_fewer}

-- a board whose registry is sound, and each part with it
pub record Whole (shape : Shape) (bound : ℕ) (b : Board) : Type 0 where
  pub fine : RegistryFine shape b.registry
  pub each : Each b.registry shape bound b

-- a plan that minds what it writes leads to such a board
pub kept_whole : {A : Type 0} (shape : Shape) (bound : ℕ) (r : RegistryPart) (m : Plan A) (b : Board) (ws : Wishes) → RegistryFine shape r → Holds (sound r shape bound) m → Each r shape bound b → Whole shape bound (run m b ws).board
kept_whole {A} shape bound r m b ws fine keeps each =
    let left = keeps b ws each in
    let o = (run m b ws).board in
    let both : RegistryFine shape o.registry × Each o.registry shape bound o = subst (λ (q : RegistryPart). RegistryFine shape q × Each q shape bound o) (sym (left Part.Registry)) (fine, left) in
    record { fine = both.0; each = both.1 }

-- another registry with the same pins, whose triggers were such before
pub moved : (shape : Shape) (bound : ℕ) (r s : RegistryPart) (b : Board) → Each r shape bound b → ((c : ℕ) → IsTrue (is_trigger s c) → IsTrue (is_trigger r c)) → ((pin : Pin) → HasResampler r pin → HasResampler s pin) → Each s shape bound (record b { registry = s })
moved shape bound r s b each triggers resamplers Part.Registry = refl
moved shape bound r s b each triggers resamplers Part.Counters = let c = each Part.Counters in record { number = c.number; greatest = c.greatest; triggers = λ counter count on at. c.triggers counter count (triggers counter on) at }
moved shape bound r s b each triggers resamplers Part.Tick = each Part.Tick
moved shape bound r s b each triggers resamplers Part.Pic = let h = each Part.Pic in record { there = h.there; resample = λ pin held. resamplers (Pin.Pic pin) (h.resample pin held) }
moved shape bound r s b each triggers resamplers Part.Ioapic = let h = each Part.Ioapic in record { entries = h.entries; holds = record { there = h.holds.there; resample = λ pin held. resamplers (Pin.Ioapic pin) (h.holds.resample pin held) } }
moved shape bound r s b each triggers resamplers (Part.Lapic n) = each (Part.Lapic n)

-- a call that is refused leads to the board itself
pub unless_whole : (shape : Shape) (bound : ℕ) (b : Board) (ws : Wishes) (refusal : Option Refusal) (plan : Plan (Unit {0})) → Whole shape bound b → (refusal ≡ None → Whole shape bound (run plan b ws).board) → Whole shape bound (run (unless_refused refusal plan) b ws).board
unless_whole shape bound b ws None plan w h = h refl
unless_whole shape bound b ws (Some refusal) plan w h = w

pub less_of : (a b : ℕ) → nat_le a b ≡ false → b < a
less_of a b e = grind arith

-- a test of an element more, which it fails
none_more : {X : Type 0} (p : X → Bool) (xs : List X) (x : X) → list_any p xs ≡ false → p x ≡ false → list_any p (xs ++ x ∷ []) ≡ false
none_more p xs x none off = list_any-append p xs (x ∷ []) ∙ or_both (list_any p xs) (p x || false) none (or_both (p x) false off refl)

-- and with an irqfd more of another resample counter
role_more : (rows : List Irqfd) (row : Irqfd) (g : Bool) (t : ℕ) → (list_any (has_resample t) rows || g) ≡ false → has_resample t row ≡ false → (list_any (has_resample t) (rows ++ row ∷ []) || g) ≡ false
role_more rows row g t old off = let each = or_neither (list_any (has_resample t) rows) g old in or_both (list_any (has_resample t) (rows ++ row ∷ [])) g (none_more (has_resample t) rows row each.0 off) each.1

-- a resample counter that does not clash is no trigger
clash_free : (r : RegistryPart) (trigger : ℕ) (resample : Option ℕ) → resample_clashes r trigger resample ≡ false → (is_counter trigger resample ≡ false) × All (λ (i : Irqfd). is_counter i.trigger resample ≡ false) r.irqfds
clash_free r trigger None e = (refl, λ k d below. refl)
clash_free r trigger (Some c) e =
    let each = or_neither (nat_eq c trigger) (is_trigger r c) e in
    (each.0, All-weaker (λ (i : Irqfd). has_trigger c i ≡ false) (λ (i : Irqfd). is_counter i.trigger (Some c) ≡ false) (λ i off. (grind (arith, off))) r.irqfds (each_fails (has_trigger c) r.irqfds each.1))

-- ---- ioeventfds

module _ (shape : Shape) (bound : ℕ) (b : Board) (ws : Wishes) (w : Whole shape bound b) where
  with_events : (events : List IoRow) → All (λ (e : IoRow). e.counter < shape.counters) events → AllPairs (λ (row other : IoRow). do_collide row other ≡ false) events → length events ≤ 256 → Whole shape bound (record b { registry = record b.registry { ioevents = events } })
  with_events events named apart count = record {
    fine = record {
      sound = record { table = w.fine.sound.table; irqfds = w.fine.sound.irqfds; watches = w.fine.sound.watches; ticks = w.fine.sound.ticks };
      named = record { irqfds = w.fine.named.irqfds; watches = w.fine.named.watches; ioevents = named };
      distinct = record { triggers = w.fine.distinct.triggers; roles = w.fine.distinct.roles; watches = w.fine.distinct.watches; watch_count = w.fine.distinct.watch_count; ioevents = apart; ioevent_count = count };
    };
    each = moved shape bound b.registry (record b.registry { ioevents = events }) b w.each (λ c on. on) (λ pin h. record { gsi = h.gsi; named = h.named; resamples = h.resamples });
  }

  pub attach_whole : (row : IoRow) → row.counter < shape.counters → Whole shape bound (run (attach row) b ws).board
  attach_whole row below = unless_whole shape bound b ws (first_of (attach_reasons b.registry row)) _ w (λ none.
      let clash = no_reason (list_any (λ other. do_collide other row) b.registry.ioevents) Exists ((nat_le 256 (length b.registry.ioevents), Full) ∷ []) none in
      with_events (b.registry.ioevents ++ row ∷ [])
      (All-push (λ (e : IoRow). e.counter < shape.counters) b.registry.ioevents row w.fine.named.ioevents below)
      (pairs_push (λ (row other : IoRow). do_collide row other ≡ false) b.registry.ioevents row w.fine.distinct.ioevents (each_fails (λ other. do_collide other row) b.registry.ioevents clash.0))
      (omega (arith, length-append b.registry.ioevents (row ∷ []), (less_of 256 (length b.registry.ioevents) (no_reason (nat_le 256 (length b.registry.ioevents)) Full [] clash.1).0))))

  pub detach_whole : (row : IoRow) → Whole shape bound (run (detach row) b ws).board
  detach_whole row = unless_whole shape bound b ws (first_of (detach_reasons b.registry row)) _ w (λ _.
      let keep : IoRow → Bool = λ other. not (is_same_ioevent row other) in
      with_events (filter keep b.registry.ioevents)
      (All-filter keep (λ (e : IoRow). e.counter < shape.counters) b.registry.ioevents w.fine.named.ioevents)
      (AllPairs-filter (λ (row other : IoRow). do_collide row other ≡ false) keep b.registry.ioevents w.fine.distinct.ioevents)
      (let fewer = length_fewer keep b.registry.ioevents in omega (arith, fewer, w.fine.distinct.ioevent_count)))

  -- ---- acknowledge notifiers

  with_watches : (rows : List Watch) → All (WatchFits shape.counters) rows → AllPairs (λ (row other : Watch). is_named_watch row.counter row.gsi other ≡ false) rows → length rows ≤ 256
      → All (λ (row : Irqfd). is_signalled (record b.registry { watches = rows }) row.trigger ≡ false) b.registry.irqfds → Whole shape bound (record b { registry = record b.registry { watches = rows } })
  with_watches rows named apart count roles = record {
    fine = record {
      sound = record { table = w.fine.sound.table; irqfds = w.fine.sound.irqfds; watches = All-weaker (WatchFits shape.counters) (λ (row : Watch). row.gsi < 4096) (λ row fits. fits.gsi) rows named; ticks = w.fine.sound.ticks };
      named = record { irqfds = w.fine.named.irqfds; watches = named; ioevents = w.fine.named.ioevents };
      distinct = record { triggers = w.fine.distinct.triggers; roles = roles; watches = apart; watch_count = count; ioevents = w.fine.distinct.ioevents; ioevent_count = w.fine.distinct.ioevent_count };
    };
    each = moved shape bound b.registry (record b.registry { watches = rows }) b w.each (λ c on. on) (λ pin h. record { gsi = h.gsi; named = h.named; resamples = h.resamples });
  }

  pub watch_whole : (counter gsi : ℕ) → counter < shape.counters → gsi < 4096 → Whole shape bound (run (watch counter gsi) b ws).board
  watch_whole counter gsi below low = unless_whole shape bound b ws (first_of (watch_reasons b.registry counter gsi)) _ w (λ none.
      let rows = b.registry.watches in
      let row : Watch = record { counter = counter; gsi = gsi } in
      let clash = no_reason (is_trigger b.registry counter) RoleClash ((has_watch_row rows counter gsi, Exists) ∷ (nat_le 256 (length rows), Full) ∷ []) none in
      let there = no_reason (has_watch_row rows counter gsi) Exists ((nat_le 256 (length rows), Full) ∷ []) clash.1 in
      with_watches (rows ++ row ∷ [])
      (All-push (WatchFits shape.counters) rows row w.fine.named.watches (record { counter = below; gsi = low }))
      (pairs_push (λ (row other : Watch). is_named_watch row.counter row.gsi other ≡ false) rows row w.fine.distinct.watches
      (All-weaker (λ (other : Watch). is_named_watch counter gsi other ≡ false) (λ (other : Watch). is_named_watch other.counter other.gsi row ≡ false) (λ other off. (grind (arith, off))) rows (each_fails (is_named_watch counter gsi) rows there.0)))
      (omega (arith, length-append rows (row ∷ []), (less_of 256 (length rows) (no_reason (nat_le 256 (length rows)) Full [] there.1).0)))
      (grind (arith, none_more, w.fine.distinct.roles, (each_fails (has_trigger counter) b.registry.irqfds clash.0))))

  pub unwatch_whole : (counter gsi : ℕ) → Whole shape bound (run (unwatch counter gsi) b ws).board
  unwatch_whole counter gsi = unless_whole shape bound b ws (first_of (unwatch_reasons b.registry counter gsi)) _ w (λ _.
      let rows = b.registry.watches in
      let keep : Watch → Bool = λ row. not (is_named_watch counter gsi row) in
      with_watches (filter keep rows)
      (All-filter keep (WatchFits shape.counters) rows w.fine.named.watches)
      (AllPairs-filter (λ (row other : Watch). is_named_watch row.counter row.gsi other ≡ false) keep rows w.fine.distinct.watches)
      (let fewer = length_fewer keep rows in omega (arith, fewer, w.fine.distinct.watch_count))
      (All-weaker (λ (i : Irqfd). is_signalled b.registry i.trigger ≡ false) (λ (i : Irqfd). is_signalled (record b.registry { watches = filter keep rows }) i.trigger ≡ false)
      (λ i off. let each = or_neither (list_any (has_resample i.trigger) b.registry.irqfds) (has_counter rows i.trigger) off in or_both (list_any (has_resample i.trigger) b.registry.irqfds) (has_counter (filter keep rows) i.trigger) each.0 (none_fewer (λ row. nat_eq row.counter i.trigger) keep rows each.1))
      b.registry.irqfds w.fine.distinct.roles))

-- ---- irqfds

written_zero : (xs : List ℕ) (i y : ℕ) → slice_get (slice_set xs i 0) i ≡ Some y → y ≡ 0
written_zero [] i y e = cc
written_zero (x ∷ xs) zero y e = cc
written_zero (x ∷ xs) (suc i) y e = written_zero xs i y e

or_there : (a b : Bool) → b ≡ true → (a || b) ≡ true
or_there a b h1 = grind arith

-- a row with a resample counter is a resampler of its GSI
pub own_row : (r : RegistryPart) (row : Irqfd) → is_some row.resample ≡ true → has_resampler (r.irqfds ++ row ∷ []) row.gsi ≡ true
own_row r row h1 = grind (arith, list_any-append, or_there)

-- a GSI with a resampler has one with a row more
pub more_resampler : (r : RegistryPart) (row : Irqfd) (pin : Pin) → HasResampler r pin → HasResampler (record r { irqfds = r.irqfds ++ row ∷ [] }) pin
more_resampler r row pin h = record { gsi = h.gsi; named = h.named; resamples = list_any-append (resamples h.gsi) r.irqfds (row ∷ []) ∙ (grind (arith, h.resamples)) }

-- a row is there, and the count of its trigger is 0
assigned_each : (shape : Shape) (bound : ℕ) (r : RegistryPart) (row : Irqfd) (b : Board) → Each r shape bound b → Each (record r { irqfds = r.irqfds ++ row ∷ [] }) shape bound (record b { registry = record r { irqfds = r.irqfds ++ row ∷ [] }; counters = taken b.counters row.trigger })
assigned_each shape bound r row b each Part.Registry = refl
assigned_each shape bound r row b each Part.Counters = record {
  number = stands.number;
  greatest = stands.greatest;
  triggers = λ counter count on at. elim (eqb_tells row.trigger counter) [
    | inl h ↦ written_zero b.counters row.trigger count (subst (λ n. slice_get (taken b.counters row.trigger) n ≡ Some count) (sym h.1) at)
    | inr h ↦ stands.triggers counter count (grind (arith, (sym (list_any-append (has_trigger counter) r.irqfds (row ∷ [])) ∙ on), (or_both (nat_eq row.trigger counter) false h.0 refl))) at
  ];
}
  where
    stands : CountsFine r shape.counters (taken b.counters row.trigger)
    stands = counts_taken r shape.counters b.counters row.trigger (each Part.Counters)
assigned_each shape bound r row b each Part.Tick = each Part.Tick
assigned_each shape bound r row b each Part.Pic = let h = each Part.Pic in record { there = h.there; resample = λ pin held. more_resampler r row (Pin.Pic pin) (h.resample pin held) }
assigned_each shape bound r row b each Part.Ioapic = let h = each Part.Ioapic in record { entries = h.entries; holds = record { there = h.holds.there; resample = λ pin held. more_resampler r row (Pin.Ioapic pin) (h.holds.resample pin held) } }
assigned_each shape bound r row b each (Part.Lapic n) = each (Part.Lapic n)

module _ (shape : Shape) (bound : ℕ) (b : Board) (ws : Wishes) (w : Whole shape bound b) where
  assigned_fine : (row : Irqfd) → shape.counters ≤ 256 → IrqfdFits shape.counters row → first_of (assign_reasons b.registry row.trigger row.resample) ≡ None → RegistryFine shape (record b.registry { irqfds = b.registry.irqfds ++ row ∷ [] })
  assigned_fine row few fits none =
      let r = b.registry in
      let busy = no_reason (is_trigger r row.trigger) Busy ((is_signalled r row.trigger || resample_clashes r row.trigger row.resample, RoleClash) ∷ []) none in
      let roles = or_neither (is_signalled r row.trigger) (resample_clashes r row.trigger row.resample) (no_reason (is_signalled r row.trigger || resample_clashes r row.trigger row.resample) RoleClash [] busy.1).0 in
      let free = clash_free r row.trigger row.resample roles.1 in
      record {
        sound = record { table = w.fine.sound.table; irqfds = All-push IsSoundIrqfd r.irqfds row w.fine.sound.irqfds (record { trigger = omega (arith, fits.trigger, few); gsi = fits.gsi }); watches = w.fine.sound.watches; ticks = w.fine.sound.ticks };
        named = record { irqfds = All-push (IrqfdFits shape.counters) r.irqfds row w.fine.named.irqfds fits; watches = w.fine.named.watches; ioevents = w.fine.named.ioevents };
        distinct = record {
          triggers = pairs_push (λ (a c : Irqfd). has_trigger a.trigger c ≡ false) r.irqfds row w.fine.distinct.triggers
              (All-weaker (λ (i : Irqfd). has_trigger row.trigger i ≡ false) (λ (i : Irqfd). has_trigger i.trigger row ≡ false) (λ i off. (grind (arith, off))) r.irqfds (each_fails (has_trigger row.trigger) r.irqfds busy.0));
          roles = All-push (λ (i : Irqfd). is_signalled (record r { irqfds = r.irqfds ++ row ∷ [] }) i.trigger ≡ false) r.irqfds row
              (λ k d below. role_more r.irqfds row (has_counter r.watches (get_or r.irqfds k d).trigger) (get_or r.irqfds k d).trigger (w.fine.distinct.roles k d below) (free.1 k d below))
              (role_more r.irqfds row (has_counter r.watches row.trigger) row.trigger roles.0 free.0);
          watches = w.fine.distinct.watches;
          watch_count = w.fine.distinct.watch_count;
          ioevents = w.fine.distinct.ioevents;
          ioevent_count = w.fine.distinct.ioevent_count;
        };
      }

  inject_count_keeps : (row : Irqfd) (some : Bool) → Holds (sound (record b.registry { irqfds = b.registry.irqfds ++ row ∷ [] }) shape bound) (inject_count (routing_of_registry b.registry shape.tick) shape row.gsi row.resample some)
  inject_count_keeps row =
      let s : RegistryPart = record b.registry { irqfds = b.registry.irqfds ++ row ∷ [] } in
      let may : MayHold s (targets_of b.registry.table row.gsi) (source_of (is_some row.resample)) = may_hold s w.fine.sound.table row.gsi (source_of (is_some row.resample))
      (λ is. own_row b.registry row (resamples_if (is_some row.resample) is)) in
      inject_count_holds (sound s shape bound) (routing_of_registry b.registry shape.tick) shape (sound_signals s shape bound) row.gsi row.resample (may_raise s shape bound (targets_of b.registry.table row.gsi) (source_of (is_some row.resample)) may)
      (λ pic. shows (Each s shape bound) (signals_keep s shape bound) (injected row.gsi pic))

  pub assign_whole : (trigger gsi : ℕ) (resample : Option ℕ) → shape.counters ≤ 256 → trigger < shape.counters → gsi < 4096 → IfSome resample (λ c. c < shape.counters) → Whole shape bound (run (assign (routing_of_registry b.registry shape.tick) shape trigger gsi resample) b ws).board
  assign_whole trigger gsi resample few below low named = unless_whole shape bound b ws (first_of (assign_reasons b.registry trigger resample)) _ w (λ none.
      let row : Irqfd = record { trigger = trigger; gsi = gsi; resample = resample } in
      let s : RegistryPart = record b.registry { irqfds = b.registry.irqfds ++ row ∷ [] } in
      let some = nat_lt 0 (slice_index b.counters trigger) in
      kept_whole shape bound s (inject_count (routing_of_registry b.registry shape.tick) shape gsi resample some >> reply Done) (record b { registry = s; counters = taken b.counters trigger }) ws
      (assigned_fine row few (record { trigger = below; gsi = low; resample = named }) none)
      (after (sound s shape bound) (inject_count (routing_of_registry b.registry shape.tick) shape gsi resample some) (reply Done) (inject_count_keeps row some) (λ b ws each. each))
      (assigned_each shape bound b.registry row b w.each))
