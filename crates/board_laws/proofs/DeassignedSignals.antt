-- From the end of an irqfd to the next of its trigger, a write of its counter or a guest write that rings it signals nothing.
use Rattle.board_laws.proofs.Basics.{routing_on, last_is_one, ◌≡◌, ◌≢◌, ℕ, zero, suc, ◌-◌, ◌<◌, Bool, true, false, true≢false, ◌||◌, ◌⊎◌, inl, inr, if◌then◌else◌, List, [], ◌∷◌, refl, sym, ap, subst, ◌∙◌, arith, option_map, Some, None, find, slice_get, slice_set, Contains, list_any, Option, Contains-append_left, Contains-append_right, first_of, Call, Caller, Event, Rang, Entry, Refusal, Done, Refused, Part, Shape, Irqfd, TriggerWord, is_port, written, ticked, tick_injects, has_trigger, rung_by, Board, part_of, with_part, trigger_of, Plan, put, tell, reply, ◌>>◌, Wishes, Outcome, run, range_reasons, write_reasons, is_trigger, is_ioapic_address, is_lapic_address, unless_refused, write, pair_write, ioapic_store, lapic_store, port_out, store, ring_counter, rung, ring, number_of, does_publish, publishes_unless, would_publish, plan_on, outcome_of, with_counts, Step, opening, Leads, board_after, Space, Point, board_at, board_left, IsLegal, OfLegalHistories, rung_on, IsRefusedAlone, MakesTrigger, ChangesCountAlone, SignalsNothing, RingsAlone, SignalsNoMore, EndedSignalsNoMore, NoSignalOfDeassignedTrigger, or_neither}
use Rattle.board_laws.proofs.Points.{split, kept, before_point, step_at, at_points}
use Rattle.board_laws.proofs.ConservingAcks.{or_right, allows, Allowed, quiet_conserving}
use Rattle.board_laws.proofs.ConservingCalls.{Lets, rung_quiet, call_keeps, tick_keeps}
use Rattle.board_laws.proofs.DeassignedRows.{AreApart, step_apart, opening_apart, step_off, ends_off}

-- ---- lists

pub no_member : {X : Type 0} (x : X) → Contains [] x → ⊥
no_member x h = let below : h.0 < 0 = h.1 in absurd (omega (arith, below))

-- a member is the first, or one of the others
pub first_or_later : {X : Type 0} (y x : X) (xs : List X) → Contains (y ∷ xs) x → (x ≡ y) ⊎ Contains xs x
first_or_later y x xs h1 = grind arith

-- a list that is set at one place is the same at another
other_place : (xs : List ℕ) (c k v : ℕ) → k ≢ c → slice_get (slice_set xs c v) k ≡ slice_get xs k
other_place [] c k v ne = refl
other_place (x ∷ xs) zero zero v ne = absurd (ne refl)
other_place (x ∷ xs) zero (suc k) v ne = refl
other_place (x ∷ xs) (suc c) zero v ne = refl
other_place (x ∷ xs) (suc c) (suc k) v ne = other_place xs c k v (λ e. ne (ap suc e))

none_found : (p : Irqfd → Bool) (rows : List Irqfd) → list_any p rows ≡ false → find p rows ≡ None
none_found p [] none = refl
none_found p (x ∷ xs) none =
    let each = or_neither (p x) (list_any p xs) none in
    ap (λ t. if t then Some x else find p xs) each.0 ∙ none_found p xs each.1

-- ---- no signal

-- an outcome tells no event, is done or refused, and changes the count of that counter alone
record Plainly (counter : ℕ) (b : Board) (o : Outcome (Unit {0})) : Type 0 where
  told : o.log.events ≡ []
  answers : (o.log.answers ≡ Done ∷ []) ⊎ ((refusal : Refusal) × (o.log.answers ≡ Refused refusal ∷ []))
  changes : ChangesCountAlone counter b o.board

-- an outcome is a refusal alone
pub record Refuses (b : Board) (o : Outcome (Unit {0})) : Type 0 where
  pub refusal : Refusal
  pub told : o.log.events ≡ []
  pub answers : o.log.answers ≡ Refused refusal ∷ []
  pub same : o.board ≡ b

-- an outcome tells that it rings the counter, and changes its count alone
record Rings (counter : ℕ) (b : Board) (o : Outcome (Unit {0})) : Type 0 where
  told : o.log.events ≡ Rang counter ∷ []
  answers : o.log.answers ≡ Done ∷ []
  changes : ChangesCountAlone counter b o.board

changes_count : (counter v : ℕ) (b : Board) → ChangesCountAlone counter b (with_part b Part.Counters (slice_set b.counters counter v))
changes_count counter v b = record { parts = others; counts = λ k ne. other_place b.counters counter k v ne }
  where
    others : (q : Part) → q ≢ Part.Counters → part_of (with_part b Part.Counters (slice_set b.counters counter v)) q ≡ part_of b q
    others Part.Counters ne = absurd (ne refl)
    others _ ne = refl

changes_counted : (counter : ℕ) (t : Bool) (b o : Board) → ChangesCountAlone counter b o → ChangesCountAlone counter b (with_counts t o)
changes_counted counter t b o h = record { parts = λ q ne. same t q ∙ h.parts q ne; counts = λ k ne. ap (λ counts. slice_get counts k) (same t Part.Counters) ∙ h.counts k ne }
  where
    same : (t : Bool) (q : Part) → part_of (with_counts t o) q ≡ part_of o q
    same t q = grind arith

module _ (counter : ℕ) (b : Board) (ws : Wishes) where
  -- a call that is refused
  unless_plainly : (refusal : Option Refusal) (plan : Plan (Unit {0})) → Plainly counter b (run plan b ws) → Plainly counter b (run (unless_refused refusal plan) b ws)
  unless_plainly None plan h = h
  unless_plainly (Some refusal) plan h = record { told = refl; answers = inr (refusal, refl); changes = (record { parts = λ q _. refl; counts = λ k _. refl }) }

  -- ---- a guest write that rings it

  -- what holds of the outcome of the ring
  module _ (IsRung : Outcome (Unit {0}) → Type 0) (is_rung : IsRung (run (rung (routing_on b) b.shape (Some counter)) b ws)) where
    -- a plan is refused, or it rings the counter
    abbrev pub RefusesOrRings : Plan (Unit {0}) → Type 0
    RefusesOrRings plan = Refuses b (run plan b ws) ⊎ IsRung (run plan b ws)

    unless_rings : (refusal : Option Refusal) (plan : Plan (Unit {0})) → RefusesOrRings plan → RefusesOrRings (unless_refused refusal plan)
    unless_rings None plan h = h
    unless_rings (Some refusal) plan h = inl (record { refusal = refusal; told = refl; answers = refl; same = refl })

    rung_rings : (k : Option ℕ) → k ≡ Some counter → RefusesOrRings (rung (routing_on b) b.shape k)
    rung_rings k is = subst (λ (k : Option ℕ). RefusesOrRings (rung (routing_on b) b.shape k)) (sym is) (inr is_rung)

    -- a write to a port
    port_rings : (t : Bool) (port len value : ℕ) → (if t then None else rung_by b.registry.ioevents Space.Port port len value) ≡ Some counter
        → RefusesOrRings (if t then pair_write (routing_on b) b.shape port len value else ring (routing_on b) b.shape Space.Port port len value)
    port_rings true port len value is = cc
    port_rings false port len value is = rung_rings (rung_by b.registry.ioevents Space.Port port len value) is

    -- a store to memory
    store_rings : (t u : Bool) (n address len value : ℕ) → (if t || u then None else rung_by b.registry.ioevents Space.Memory address len value) ≡ Some counter
        → RefusesOrRings (if t then ioapic_store b.shape (address - 0xfec00000) len value else if u then lapic_store (routing_on b) b.shape n (address - 0xfee00000) len value else ring (routing_on b) b.shape Space.Memory address len value)
    store_rings true u n address len value is = cc
    store_rings false true n address len value is = cc
    store_rings false false n address len value is = rung_rings (rung_by b.registry.ioevents Space.Memory address len value) is

    pub call_rings : (caller : Caller) (call : Call) → rung_on b call ≡ Some counter → RefusesOrRings (plan_on b caller call)
    call_rings caller (Call.PortOut port len value) is = unless_rings (first_of (range_reasons b.shape (Call.PortOut port len value))) (port_out (routing_on b) b.shape port len value) (port_rings (is_port port) port len value is)
    call_rings caller (Call.Store address len value) is = unless_rings (first_of (range_reasons b.shape (Call.Store address len value))) (store (routing_on b) b.shape (number_of caller) address len value) (store_rings (is_ioapic_address address) (is_lapic_address address) (number_of caller) address len value is)
    call_rings caller _ is = cc

  module _ (off : is_trigger b.registry counter ≡ false) where
    -- the counter triggers nothing
    no_trigger : (routing_on b).trigger counter ≡ None
    no_trigger = ap (option_map trigger_of) (none_found (has_trigger counter) b.registry.irqfds off)

    -- a write adds to its count, or is refused
    write_plainly : (caller : Caller) (n : ℕ) → Plainly counter b (run (plan_on b caller (Call.Write counter n)) b ws)
    write_plainly caller n = unless_plainly (first_of (range_reasons b.shape (Call.Write counter n))) (write (routing_on b) b.shape ((routing_on b).trigger counter) counter n)
        (subst (λ (trigger : Option TriggerWord). Plainly counter b (run (write (routing_on b) b.shape trigger counter n) b ws)) (sym no_trigger)
        (unless_plainly (first_of (write_reasons b.counters counter n)) (put Part.Counters (written b.counters counter n) (reply Done))
        (record { told = refl; answers = inl refl; changes = changes_count counter _ b })))

    own_rings : Rings counter b (run (rung (routing_on b) b.shape (Some counter)) b ws)
    own_rings = subst (λ (trigger : Option TriggerWord). Rings counter b (run (tell (Rang counter) (ring_counter (routing_on b) b.shape counter trigger >> reply Done)) b ws)) (sym no_trigger)
        (record { told = refl; answers = refl; changes = changes_count counter _ b })

  -- ---- what tells that it rang

  -- a plan tells that the counter rang only where P is so
  abbrev TellsOnly : Type 0 → Plan (Unit {0}) → Type 0
  TellsOnly P plan = Contains (run plan b ws).log.events (Rang counter) → P

  unless_tells : (P : Type 0) (refusal : Option Refusal) (plan : Plan (Unit {0})) → TellsOnly P plan → TellsOnly P (unless_refused refusal plan)
  unless_tells P None plan h = h
  unless_tells P (Some refusal) plan h = λ rang. absurd (no_member (Rang counter) rang)

  -- what is no ring tells no such event
  none_rang : (events : List Event) → Allowed false events → Contains events (Rang counter) → ⊥
  none_rang [] allowed rang = no_member (Rang counter) rang
  none_rang (x ∷ xs) allowed rang = elim (first_or_later x (Rang counter) xs rang) [
    | inl is ↦ true≢false (sym (ap (allows false) is ∙ allowed.0))
    | inr later ↦ none_rang xs allowed.1 later
  ]

  rung_tells : (k : Option ℕ) → TellsOnly (k ≡ Some counter) (rung (routing_on b) b.shape k)
  rung_tells None rang = absurd (no_member (Rang counter) rang)
  rung_tells (Some k) rang = elim (first_or_later (Rang k) (Rang counter) (run after b ws).log.events rang) [
    | inl is ↦ let same : k ≡ counter = cc in ap Some same
    | inr later ↦ absurd (none_rang (run after b ws).log.events (quiet_conserving b.shape.tick false (λ _. true) after (rung_quiet (λ _. true) (routing_on b) b.shape k (λ _. refl)) b ws).allowed later)
  ]
    where
      after : Plan (Unit {0})
      after = ring_counter (routing_on b) b.shape k ((routing_on b).trigger k) >> reply Done

  module _ (caller : Caller) where
    -- a call that needs ring nothing
    silent : (P : Type 0) (call : Call) → Lets false (λ _. true) call → TellsOnly P (plan_on b caller call)
    silent P call lets rang = absurd (none_rang (run (plan_on b caller call) b ws).log.events (call_keeps (routing_on b) b.shape false (λ _. true) caller call lets b ws).allowed rang)

    port_tells : (port len value : ℕ) → TellsOnly (rung_on b (Call.PortOut port len value) ≡ Some counter) (plan_on b caller (Call.PortOut port len value))
    port_tells port len value = by_port (is_port port) refl
      where
        rings : Option ℕ
        rings = rung_by b.registry.ioevents Space.Port port len value

        chip : Bool → Plan (Unit {0})
        chip t = unless_refused (first_of (range_reasons b.shape (Call.PortOut port len value))) (if t then pair_write (routing_on b) b.shape port len value else ring (routing_on b) b.shape Space.Port port len value)

        by_port : (t : Bool) → is_port port ≡ t → TellsOnly (rung_on b (Call.PortOut port len value) ≡ Some counter) (plan_on b caller (Call.PortOut port len value))
        by_port true is = silent (rung_on b (Call.PortOut port len value) ≡ Some counter) (Call.PortOut port len value) (inl is)
        by_port false is = subst (λ (t : Bool). TellsOnly ((if t then None else rings) ≡ Some counter) (chip t)) (sym is)
            (unless_tells (rings ≡ Some counter) (first_of (range_reasons b.shape (Call.PortOut port len value))) (ring (routing_on b) b.shape Space.Port port len value) (rung_tells rings))

    store_tells : (address len value : ℕ) → TellsOnly (rung_on b (Call.Store address len value) ≡ Some counter) (plan_on b caller (Call.Store address len value))
    store_tells address len value = by_address (is_ioapic_address address) (is_lapic_address address) refl refl
      where
        rings : Option ℕ
        rings = rung_by b.registry.ioevents Space.Memory address len value

        chip : Bool → Bool → Plan (Unit {0})
        chip t u = unless_refused (first_of (range_reasons b.shape (Call.Store address len value)))
            (if t then ioapic_store b.shape (address - 0xfec00000) len value else if u then lapic_store (routing_on b) b.shape (number_of caller) (address - 0xfee00000) len value else ring (routing_on b) b.shape Space.Memory address len value)

        by_address : (t u : Bool) → is_ioapic_address address ≡ t → is_lapic_address address ≡ u → TellsOnly (rung_on b (Call.Store address len value) ≡ Some counter) (plan_on b caller (Call.Store address len value))
        by_address true u is at = silent (rung_on b (Call.Store address len value) ≡ Some counter) (Call.Store address len value) (inl (ap (λ t. t || is_lapic_address address) is))
        by_address false true is at = silent (rung_on b (Call.Store address len value) ≡ Some counter) (Call.Store address len value) (inl (or_right (is_ioapic_address address) (is_lapic_address address) at))
        by_address false false is at = subst (λ (x : Bool × Bool). TellsOnly ((if x.0 || x.1 then None else rings) ≡ Some counter) (chip x.0 x.1)) (λ i. (sym is i, sym at i))
            (unless_tells (rings ≡ Some counter) (first_of (range_reasons b.shape (Call.Store address len value))) (ring (routing_on b) b.shape Space.Memory address len value) (rung_tells rings))

    tick_silent : (P : Type 0) → TellsOnly P (plan_on b caller Call.Tick)
    tick_silent P rang =
        absurd (none_rang (run (plan_on b caller Call.Tick) b ws).log.events (tick_keeps (routing_on b) b.shape false (λ _. true) (ticked b.tick) (tick_injects b.tick) (with_part b Part.Tick (ticked b.tick)) ws).allowed rang)

    -- whatever the call is
    pub call_tells : (call : Call) → TellsOnly (rung_on b call ≡ Some counter) (plan_on b caller call)
    call_tells (Call.PortOut port len value) = port_tells port len value
    call_tells (Call.Store address len value) = store_tells address len value
    call_tells Call.Tick = tick_silent (None ≡ Some counter)
    call_tells (Call.TickMode reinject) = λ rang. absurd (no_member (Rang counter) rang)
    call_tells (Call.Assign trigger gsi resample) = silent (None ≡ Some counter) (Call.Assign trigger gsi resample) refl
    call_tells call = silent (rung_on b call ≡ Some counter) call tt

-- ---- a step

-- a step whose outcome is plain signals nothing
signals_nothing : (counter : ℕ) (b : Board) (e : Entry) (c : Board) (s : Step b e c) → Plainly counter b (outcome_of b e s.wishes) → (e.events ≡ []) × SignalsNothing counter b e c
signals_nothing counter b e c s h = (
  sym s.told ∙ h.told,
  record {
    reply = elim h.answers [
      | inl done ↦ inl (last_is_one [] Done e.reply (sym done ∙ s.replied))
      | inr refused ↦ inr (refused.0, last_is_one [] (Refused refused.0) e.reply (sym refused.1 ∙ s.replied))
    ];
    changes = subst (λ (d : Board). ChangesCountAlone counter b d) s.leads (changes_counted counter (would_publish b e.call) b (outcome_of b e s.wishes).board h.changes);
  },
)

-- a call that publishes nothing is no publication, refused or not
no_publication : (b : Board) (call : Call) → does_publish b call ≡ false → (refusal : Option Refusal) → publishes_unless refusal b call ≡ false
no_publication b call h1 refusal = grind arith

-- a guest write that rings is none
rings_no_words : (counter : ℕ) (b : Board) (call : Call) → rung_on b call ≡ Some counter → would_publish b call ≡ false
rings_no_words counter b call h1 = grind arith

-- a step whose outcome is a refusal alone, or a ring alone, is so
module _ (counter : ℕ) (b : Board) (e : Entry) (c : Board) (s : Step b e c) where
  pub refused_alone : rung_on b e.call ≡ Some counter → Refuses b (outcome_of b e s.wishes) → IsRefusedAlone b e c
  refused_alone rings h = record {
    refusal = h.refusal;
    reply = last_is_one [] (Refused h.refusal) e.reply (sym h.answers ∙ s.replied);
    events = sym s.told ∙ h.told;
    board = sym s.leads ∙ ap (λ t. with_counts t (outcome_of b e s.wishes).board) (rings_no_words counter b e.call rings) ∙ ap (with_counts false) h.same;
  }

  rings_alone : Rings counter b (outcome_of b e s.wishes) → RingsAlone counter b e c
  rings_alone h = record {
    reply = last_is_one [] Done e.reply (sym h.answers ∙ s.replied);
    events = sym s.told ∙ h.told;
    changes = subst (λ (d : Board). ChangesCountAlone counter b d) s.leads (changes_counted counter (would_publish b e.call) b (outcome_of b e s.wishes).board h.changes);
  }

-- where the counter is no trigger
signals_no_more : (counter : ℕ) (b : Board) (e : Entry) (c : Board) → Step b e c → is_trigger b.registry counter ≡ false → SignalsNoMore counter b e c
signals_no_more counter b e c s off = record {
  written = λ n is. signals_nothing counter b e c s (subst (λ (call : Call). Plainly counter b (run (plan_on b e.caller call) b s.wishes)) (sym is) (write_plainly counter b s.wishes off e.caller n));
  rung = λ is. elim (call_rings counter b s.wishes (Rings counter b) (own_rings counter b s.wishes off) e.caller e.call is) [
    | inl refused ↦ inl (refused_alone counter b e c s is refused)
    | inr rang ↦ inr (rings_alone counter b e c s rang)
  ];
  told = λ rang. call_tells counter b s.wishes e.caller e.call (subst (λ (events : List Event). Contains events (Rang counter)) (sym s.told) rang);
}

-- ---- a history

-- a counter that is no trigger is none until it is made one
leads_off : (trigger : ℕ) (b : Board) (es : List Entry) (c : Board) → Leads b es c → ((e : Entry) → Contains es e → MakesTrigger trigger e → ⊥) → is_trigger b.registry trigger ≡ false → is_trigger c.registry trigger ≡ false
leads_off trigger b [] c same never off = subst (λ (d : Board). is_trigger d.registry trigger ≡ false) same off
leads_off trigger b (e ∷ es) c (next, step, leads) never off =
    leads_off trigger next es c leads (λ x in_es. never x (Contains-append_right (e ∷ []) es x in_es))
    (step_off trigger b e next step (never e (Contains-append_left (e ∷ []) es e (0, omega arith, refl))) off)

ended_signals_no_more : (shape : Shape) (p : Point) → IsLegal shape p → EndedSignalsNoMore shape p
ended_signals_no_more shape p legal trigger ended = signals_no_more trigger (board_at shape p) p.entry (board_left shape p) (step_at shape p legal) (off (split (opening shape) ended.early (ended.end_ ∷ ended.between) (board_at shape p) (subst (λ (es : List Entry). Leads (opening shape) es (board_at shape p)) ended.before (before_point shape p legal))))
  where
    at_end : Board
    at_end = board_after (opening shape) ended.early

    off : Leads (opening shape) ended.early at_end × Leads at_end (ended.end_ ∷ ended.between) (board_at shape p) → is_trigger (board_at shape p).registry trigger ≡ false
    off (first, (next, step, later)) =
        leads_off trigger next ended.between (board_at shape p) later ended.none_made
        (ends_off trigger at_end ended.end_ next step ended.ends (kept (λ (b : Board). AreApart b.registry.irqfds) step_apart (opening shape) ended.early at_end first (opening_apart shape)))

pub no_signal_of_deassigned_trigger : OfLegalHistories NoSignalOfDeassignedTrigger
no_signal_of_deassigned_trigger = at_points EndedSignalsNoMore ended_signals_no_more
