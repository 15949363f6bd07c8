-- In every legal history Resample holds a pin only where the pin's GSI has a resampler.
use Rattle.board_laws.proofs.Basics.{routing_on, Walk, Holds, after, MayRaise, is_plain, inject_count_holds, plain_holds, walk, shows, signals_kept, KeptBySignals, KeptByCalls, tick_kept, calls_kept, arith, ◌≡◌, ℕ, Bool, true, false, not, ◌||◌, nat_lt, List, [], ◌∷◌, ◌++◌, Some, None, refl, sym, ap, subst, ◌∙◌, true≢false, IsTrue, AllPairs, is_some, slice_index, contains-empty, Option, All-weaker, AllPairs-filter, first_of, Call, Caller, Row, Pin, Source, Resample, Line, TickSource, Entry, Refusal, Busy, RoleClash, Done, Removed, Shape, Irqfd, TickState, PinHolds, hold, hold_cmp, table_of, targets_of, refusal_of, gsi_of, default_rows, ticked, tick_injects, taken, Board, RegistryPart, Routing, routing_of_registry, injected, the_reply, Plan, reply, ◌>>◌, Wishes, run, is_signalled, resample_clashes, is_trigger, range_reasons, assign_reasons, attach_reasons, detach_reasons, watch_reasons, unwatch_reasons, unless_refused, source_of, inject_count, was_last_resampler, release, deassigned, kept_holds, tick_or_hold, number_of, io_row, plan_in_range, default_rows-kept, no_reason, HasResampler, ResamplersHold, would_publish, plan_on, outcome_of, with_counts, Step, opening, more_for, less_for, IsMade, irqfd_resamples, pic_resamples, ioapic_resamples, each_fails, pairs_push, line_is_not, tick_is_not, resamples_if, more_resampler, own_row, freed_run, without, kept_for, kept_resampler, freed_pic, freed_ioapic, OfLegalHistories, ResampleHoldsForResamplers, empty, named_row, without_row, with_row, has_trigger, has_resampler, is_named}
use Rattle.board_laws.proofs.Points.{of_boards}

-- ---- the calls that leave the registry

-- a board with this registry, on which Resample holds for resamplers
record HeldWith (r : RegistryPart) (b : Board) : Type 0 where
  registry : b.registry ≡ r
  pic : ResamplersHold r b.pic.holds Pin.Pic
  ioapic : ResamplersHold r b.ioapic.holds Pin.Ioapic

-- so it is of a board with the same registry and the same holds
same : {r : RegistryPart} {b c : Board} → c.registry ≡ b.registry → c.pic.holds ≡ b.pic.holds → c.ioapic.holds ≡ b.ioapic.holds → HeldWith r b → HeldWith r c
same {r} registry pic ioapic h = record {
  registry = registry ∙ h.registry;
  pic = subst (λ (holds : PinHolds). ResamplersHold r holds Pin.Pic) (sym pic) h.pic;
  ioapic = subst (λ (holds : PinHolds). ResamplersHold r holds Pin.Ioapic) (sym ioapic) h.ioapic;
}

module _ (r : RegistryPart) (made : IsMade r.table) where
  abbrev held : Walk
  held = walk (HeldWith r)

  may : (gsi : ℕ) (source : Source) → (source ≡ Resample → IsTrue (has_resampler r.irqfds gsi)) → MayRaise held (targets_of r.table gsi) source
  may gsi source resamples = record {
    pic = λ pin is b h. record { registry = h.registry; pic = more_for r b.pic.holds Pin.Pic pin source h.pic (λ e. pic_resamples r made gsi pin is (resamples e)); ioapic = h.ioapic };
    ioapic = λ pin is b h. record { registry = h.registry; pic = h.pic; ioapic = more_for r b.ioapic.holds Pin.Ioapic pin source h.ioapic (λ e. ioapic_resamples r made gsi pin is (resamples e)) };
  }

  held_signals : KeptBySignals (HeldWith r)
  held_signals = record {
    accepts = λ n apic message seen b h. same refl refl refl h;
    remote_irrs = λ pin b h. same refl refl refl h;
    pic_leaves = λ pin source b h. record { registry = h.registry; pic = less_for r b.pic.holds Pin.Pic (hold pin source) h.pic; ioapic = h.ioapic };
    ioapic_leaves = λ pin source b h. record { registry = h.registry; pic = h.pic; ioapic = less_for r b.ioapic.holds Pin.Ioapic (hold pin source) h.ioapic };
  }

  module _ (shape : Shape) where
    abbrev routing : Routing
    routing = routing_of_registry r shape.tick

    held_calls : KeptByCalls (HeldWith r) routing shape
    held_calls = record {
      signals = held_signals;
      lines = λ gsi line. may gsi (Line line) (line_is_not line);
      fires = λ counter trigger is. may trigger.gsi (source_of trigger.resample) (λ e. irqfd_resamples r.irqfds counter trigger is (resamples_if trigger.resample e));
      ticks = may shape.tick TickSource tick_is_not;
      resamples = λ registry gsi seen b h. same refl refl refl h;
      notifies = λ registry gsi seen b h. same refl refl refl h;
      clears = λ pin b h. same refl refl refl h;
      frees = λ b h. same refl refl refl h;
      falls = λ status b h. same refl refl refl h;
      pairs = λ pair b h. same refl refl refl h;
      stores = λ offset value b h. same refl refl refl h;
      registers = λ n offset value b h. same refl refl refl h;
      services = λ n b h. same refl refl refl h;
      nmis = λ n b h. same refl refl refl h;
      gives = λ n b h. same refl refl refl h;
      rung = λ counter none b h. same refl refl refl h;
      counts = λ counter n none b h fits. same refl refl refl h;
      takes = λ counter b h. same refl refl refl h;
      modes = λ reinject b h. same refl refl refl h;
    }

    plain : (n : ℕ) (call : Call) → is_plain call ≡ true → Holds held (plan_in_range routing shape n call)
    plain = plain_holds held routing shape (calls_kept (HeldWith r) routing shape held_calls)

    tick_held : (after : TickState) (injects : Bool) → Holds held (tick_or_hold routing shape after injects)
    tick_held after true = tick_kept (HeldWith r) routing shape held_calls (λ pic. the_reply pic)
    tick_held after false = λ b ws h. h

-- ---- each call

-- a table by the rules, one irqfd a trigger, and holds for resamplers
record Stands (b : Board) : Type 0 where
  made : IsMade b.registry.table
  apart : AllPairs (λ (a c : Irqfd). has_trigger a.trigger c ≡ false) b.registry.irqfds
  held : HeldWith b.registry b

-- where a plan keeps the registry, it stands after it
stands_after : (r : RegistryPart) (b : Board) → IsMade r.table → AllPairs (λ (a c : Irqfd). has_trigger a.trigger c ≡ false) r.irqfds → HeldWith r b → Stands b
stands_after r b made apart h = record {
  made = subst (λ (q : RegistryPart). IsMade q.table) (sym h.registry) made;
  apart = subst (λ (q : RegistryPart). AllPairs (λ (a c : Irqfd). has_trigger a.trigger c ≡ false) q.irqfds) (sym h.registry) apart;
  held = subst (λ (q : RegistryPart). HeldWith q b) (sym h.registry) h;
}

-- where resamplers stay those of their pins
moved : (b : Board) (s : RegistryPart) → HeldWith b.registry b → ((pin : Pin) → HasResampler b.registry pin → HasResampler s pin) → HeldWith s (record b { registry = s })
moved b s h stay = record { registry = refl; pic = λ pin on. stay (Pin.Pic pin) (h.pic pin on); ioapic = λ pin on. stay (Pin.Ioapic pin) (h.ioapic pin on) }

module _ (b : Board) (ws : Wishes) (s : Stands b) where
  abbrev r : RegistryPart
  r = b.registry

  -- a call that leaves the registry
  kept : (m : Plan (Unit {0})) → Holds (held r s.made) m → Stands (run m b ws).board
  kept m h = stands_after r (run m b ws).board s.made s.apart (h b ws s.held)

  unless : (refusal : Option Refusal) (m : Plan (Unit {0})) → (refusal ≡ None → Stands (run m b ws).board) → Stands (run (unless_refused refusal m) b ws).board
  unless None m h = h refl
  unless (Some refusal) m h = s

  -- a registry with the same table and the same irqfds
  registered : (t : RegistryPart) → t.table ≡ r.table → t.irqfds ≡ r.irqfds → Stands (record b { registry = t })
  registered t table rows = record {
    made = subst IsMade (sym table) s.made;
    apart = subst (λ (l : List Irqfd). AllPairs (λ (a c : Irqfd). has_trigger a.trigger c ≡ false) l) (sym rows) s.apart;
    held = moved b t s.held (λ pin h. record { gsi = h.gsi; named = ap (λ q. gsi_of q pin) table ∙ h.named; resamples = ap (λ (l : List Irqfd). has_resampler l h.gsi) rows ∙ h.resamples });
  }

  assigned_stands : (trigger gsi : ℕ) (resample : Option ℕ) → first_of (assign_reasons r trigger resample) ≡ None → Stands (run (inject_count (routing_on b) b.shape gsi resample (nat_lt 0 (slice_index b.counters trigger)) >> reply Done) (record b { registry = record r { irqfds = with_row r.irqfds trigger gsi resample }; counters = taken b.counters trigger }) ws).board
  assigned_stands trigger gsi resample none = by_count (nat_lt 0 (slice_index b.counters trigger))
    where
      row : Irqfd
      row = record { trigger = trigger; gsi = gsi; resample = resample }

      t : RegistryPart
      t = record r { irqfds = r.irqfds ++ row ∷ [] }

      during : Board
      during = record b { registry = t; counters = taken b.counters trigger }

      now : HeldWith t during
      now = record { registry = refl; pic = λ pin on. more_resampler r row (Pin.Pic pin) (s.held.pic pin on); ioapic = λ pin on. more_resampler r row (Pin.Ioapic pin) (s.held.ioapic pin on) }

      apart : AllPairs (λ (a c : Irqfd). has_trigger a.trigger c ≡ false) t.irqfds
      apart = pairs_push (λ (a c : Irqfd). has_trigger a.trigger c ≡ false) r.irqfds row s.apart
          (All-weaker (λ (i : Irqfd). has_trigger trigger i ≡ false) (λ (i : Irqfd). has_trigger i.trigger row ≡ false) (λ i off. (grind (arith, off))) r.irqfds (each_fails (has_trigger trigger) r.irqfds ((no_reason (is_trigger r trigger) Busy ((is_signalled r trigger || resample_clashes r trigger resample, RoleClash) ∷ []) none).0)))

      fires : MayRaise (held t s.made) (targets_of t.table gsi) (source_of (is_some resample))
      fires = may t s.made gsi (source_of (is_some resample)) (λ is. own_row r row (resamples_if (is_some resample) is))

      by_count : (injects : Bool) → Stands (run (inject_count (routing_on b) b.shape gsi resample injects >> reply Done) during ws).board
      by_count injects = stands_after t (run (inject_count (routing_on b) b.shape gsi resample injects >> reply Done) during ws).board s.made apart
          (after (held t s.made) (inject_count (routing_on b) b.shape gsi resample injects) (reply Done)
          (inject_count_holds (held t s.made) (routing_on b) b.shape (signals_kept (HeldWith t) (held_signals t s.made)) gsi resample fires (λ pic. shows (HeldWith t) (held_signals t s.made) (injected gsi pic)) injects)
          (λ c vs h. h) during ws now)

  deassigned_stands : (trigger gsi : ℕ) (row : Option Irqfd) → named_row r.irqfds trigger gsi ≡ row → Stands (run (deassigned (routing_on b) r trigger gsi row) b ws).board
  deassigned_stands trigger gsi None is = s
  deassigned_stands trigger gsi (Some row) is =
      elim (was_last_resampler row (without_row r.irqfds trigger gsi)) as (λ t. was_last_resampler row (without_row r.irqfds trigger gsi) ≡ t → Stands (run (release (routing_on b) gsi t >> reply (Removed 1)) (record b { registry = left }) ws).board) [
        | true ↦ λ _. subst Stands (sym (freed_run (targets_of r.table gsi).pic (targets_of r.table gsi).ioapic (record b { registry = left }) ws))
            (record { made = s.made; apart = apart; held = record { registry = refl; pic = freed_pic r trigger gsi s.made b.pic.holds s.held.pic; ioapic = freed_ioapic r trigger gsi s.made b.ioapic.holds s.held.ioapic } })
        | false ↦ λ last. record { made = s.made; apart = apart; held = moved b left s.held (kept_resampler r trigger gsi row s.apart is last) }
      ] refl
    where
      left : RegistryPart
      left = without r trigger gsi

      apart : AllPairs (λ (a c : Irqfd). has_trigger a.trigger c ≡ false) left.irqfds
      apart = AllPairs-filter (λ (a c : Irqfd). has_trigger a.trigger c ≡ false) (λ row. not (is_named trigger gsi row)) r.irqfds s.apart

  rerouted_stands : (rows : List Row) → refusal_of rows ≡ None → Stands (record b {
    registry = record r { table = table_of rows };
    pic = record b.pic { holds = kept_holds r.table (table_of rows) Pin.Pic b.pic.holds };
    ioapic = record b.ioapic { holds = kept_holds r.table (table_of rows) Pin.Ioapic b.ioapic.holds };
  })
  rerouted_stands rows kept_rules = record {
    made = (rows, kept_rules, refl);
    apart = s.apart;
    held = record { registry = refl; pic = kept_for r rows b.pic.holds Pin.Pic s.held.pic; ioapic = kept_for r rows b.ioapic.holds Pin.Ioapic s.held.ioapic };
  }

  in_range : (n : ℕ) (call : Call) → first_of (range_reasons b.shape call) ≡ None → Stands (run (plan_in_range (routing_on b) b.shape n call) b ws).board
  in_range n (Call.Assign trigger gsi resample) none = unless (first_of (assign_reasons r trigger resample)) _ (assigned_stands trigger gsi resample)
  in_range n (Call.Deassign trigger gsi) none = deassigned_stands trigger gsi (named_row r.irqfds trigger gsi) refl
  in_range n (Call.Reroute rows) none = rerouted_stands rows none
  in_range n (Call.Attach space address len counter want) none = unless (first_of (attach_reasons r (io_row space address len counter want))) _ (λ _. registered _ refl refl)
  in_range n (Call.Detach space address len counter want) none = unless (first_of (detach_reasons r (io_row space address len counter want))) _ (λ _. registered _ refl refl)
  in_range n (Call.Watch counter gsi) none = unless (first_of (watch_reasons r counter gsi)) _ (λ _. registered _ refl refl)
  in_range n (Call.Unwatch counter gsi) none = unless (first_of (unwatch_reasons r counter gsi)) _ (λ _. registered _ refl refl)
  in_range n Call.Tick none =
      stands_after r (run (tick_or_hold (routing_on b) b.shape (ticked b.tick) (tick_injects b.tick)) (record b { tick = ticked b.tick }) ws).board s.made s.apart
      (tick_held r s.made b.shape (ticked b.tick) (tick_injects b.tick) (record b { tick = ticked b.tick }) ws (same refl refl refl s.held))
  in_range n call none = kept (plan_in_range (routing_on b) b.shape n call) (plain r s.made b.shape n call refl)

  call_stands : (caller : Caller) (call : Call) → Stands (run (plan_on b caller call) b ws).board
  call_stands caller call = unless (first_of (range_reasons b.shape call)) (plan_in_range (routing_on b) b.shape (number_of caller) call) (in_range (number_of caller) call)

-- ---- a history

counted_stands : (t : Bool) (b : Board) → Stands b → Stands (with_counts t b)
counted_stands true b s = record { made = s.made; apart = s.apart; held = same refl refl refl s.held }
counted_stands false b s = record { made = s.made; apart = s.apart; held = same refl refl refl s.held }

step_stands : (b : Board) (e : Entry) (c : Board) → Step b e c → Stands b → Stands c
step_stands b e c step s = subst Stands step.leads (counted_stands (would_publish b e.call) (outcome_of b e step.wishes).board (call_stands b step.wishes s e.caller e.call))

none_held : (r : RegistryPart) (chip : ℕ → Pin) → ResamplersHold r empty chip
none_held r chip pin held = absurd (true≢false (sym held ∙ contains-empty hold_cmp (hold pin Resample)))

opening_stands : (shape : Shape) → Stands (opening shape)
opening_stands shape = record {
  made = (default_rows, default_rows-kept, refl);
  apart = λ i j d less below. absurd (omega (arith, below));
  held = record { registry = refl; pic = none_held (opening shape).registry Pin.Pic; ioapic = none_held (opening shape).registry Pin.Ioapic };
}

pub resample_holds_for_resamplers : OfLegalHistories ResampleHoldsForResamplers
resample_holds_for_resamplers shape history legal first begins = record { pic = (of_boards Stands step_stands opening_stands shape history legal first begins).held.pic; ioapic = (of_boards Stands step_stands opening_stands shape history legal first begins).held.ioapic }
