-- A step from a sound board leads to a sound board.
use Rattle.board_step.proofs.Walks.{Holds}
use Rattle.board_step.proofs.Basics.{routing_on, ◌≡◌, ℕ, ◌+◌, ◌≤◌, Bool, true, false, All, ◌&&◌, nat_eq, nat_le, if◌then◌else◌, List, [], ◌∷◌, length, Some, None, refl, sym, subst, ◌∙◌, arith, All-head, All-tail, first_of, Call, Assign, Deassign, Reroute, Attach, Detach, Unwatch, Caller, Entry, Calls, Publications, Shape, TickState, ticked, tick_injects, RegistryPart, Board, the_reply, Wishes, run, InLimits, range_reasons, tick_or_hold, number_of, io_row, plan_in_range, WatchCall as Watch, TickCall as Tick, NoGsi, NoCounter, BadRange, ChipAddress, frame_stays, IsTyped, StepsKeepSound, HistoriesKeepSound, opening, Leads, bad_gsi, bad_counter, bad_resample, bad_ioevent, is_chip_address, would_publish, plan_on, with_counts, IsSound, no_reason, Part}
use Rattle.board_step.proofs.SoundOpening.{opening_is_sound}
use Rattle.board_step.proofs.SoundCounts.{CountsFine}
use Rattle.board_step.proofs.SoundPlans.{Each, each_with}
use Rattle.board_step.proofs.SoundRegistry.{RegistryFine}
use Rattle.board_step.proofs.SoundCalls.{sound, sound_plain, sound_tick}
use Rattle.board_step.proofs.SoundChanges.{Whole, kept_whole, unless_whole, less_of, attach_whole, detach_whole, watch_whole, unwatch_whole, assign_whole}
use Rattle.board_step.proofs.SoundLeaving.{deassign_whole, reroute_whole}

-- ---- a tick more may be pending

wider : (r : RegistryPart) (shape : Shape) (low high : ℕ) (b : Board) → low ≤ high → Each r shape low b → Each r shape high b
wider r shape low high b more each Part.Tick = let few : b.tick.pending ≤ low = each Part.Tick in omega (arith, few, more)
wider r shape low high b more each part = each part

-- ---- each call

module _ (b : Board) (ws : Wishes) (fine : RegistryFine b.shape b.registry) (each : Each b.registry b.shape b.length b) (few : b.shape.counters ≤ 256) where
  abbrev bound : ℕ
  bound = b.length + 1

  more : Each b.registry b.shape bound b
  more = wider b.registry b.shape b.length bound b (omega arith) each

  whole : Whole b.shape bound b
  whole = record { fine = fine; each = more }

  tick_or_hold_keeps : (after : TickState) (t : Bool) → Holds (sound b.registry b.shape bound) (tick_or_hold (routing_on b) b.shape after t)
  tick_or_hold_keeps after true = sound_tick b.registry b.shape bound fine (λ pic. the_reply pic)
  tick_or_hold_keeps after false = λ b ws each. each

  in_range : (n : ℕ) (call : Call) → IsTyped call → first_of (range_reasons b.shape call) ≡ None → Whole b.shape bound (run (plan_in_range (routing_on b) b.shape n call) b ws).board
  in_range n (Assign trigger gsi resample) typed none =
      let one = no_reason (nat_le b.shape.counters trigger) NoCounter (bad_gsi gsi ∷ bad_resample b.shape resample) none in
      let two = no_reason (nat_le 4096 gsi) NoGsi (bad_resample b.shape resample) one.1 in
      assign_whole b.shape bound b ws whole trigger gsi resample few (less_of b.shape.counters trigger one.0) (less_of 4096 gsi two.0) (grind (arith, two.1))
  in_range n (Deassign trigger gsi) typed none = deassign_whole b.shape bound b ws whole trigger gsi
  in_range n (Reroute rows) typed none = reroute_whole b.shape bound b ws whole rows none typed
  in_range n (Attach space address len counter want) typed none =
      let one = no_reason (bad_ioevent space address len want).0 BadRange (bad_counter b.shape counter ∷ (is_chip_address space address, ChipAddress) ∷ []) none in
      attach_whole b.shape bound b ws whole (io_row space address len counter want) (less_of b.shape.counters counter (no_reason (nat_le b.shape.counters counter) NoCounter ((is_chip_address space address, ChipAddress) ∷ []) one.1).0)
  in_range n (Detach space address len counter want) typed none = detach_whole b.shape bound b ws whole (io_row space address len counter want)
  in_range n (Watch counter gsi) typed none =
      let one = no_reason (nat_le b.shape.counters counter) NoCounter (bad_gsi gsi ∷ []) none in
      watch_whole b.shape bound b ws whole counter gsi (less_of b.shape.counters counter one.0) (less_of 4096 gsi (no_reason (nat_le 4096 gsi) NoGsi [] one.1).0)
  in_range n (Unwatch counter gsi) typed none = unwatch_whole b.shape bound b ws whole counter gsi
  in_range n Tick typed none =
      kept_whole b.shape bound b.registry (tick_or_hold (routing_on b) b.shape (ticked b.tick) (tick_injects b.tick)) (record b { tick = ticked b.tick }) ws fine
      (tick_or_hold_keeps (ticked b.tick) (tick_injects b.tick)) (each_with b.registry b.shape bound b Part.Tick (ticked b.tick) more (grind (arith, (each Part.Tick))))
  in_range n call typed none = kept_whole b.shape bound b.registry (plan_in_range (routing_on b) b.shape n call) b ws fine (sound_plain b.registry b.shape bound fine n call refl) more

  call_whole : (caller : Caller) (call : Call) → IsTyped call → Whole b.shape bound (run (plan_on b caller call) b ws).board
  call_whole caller call typed = unless_whole b.shape bound b ws (first_of (range_reasons b.shape call)) (plan_in_range (routing_on b) b.shape (number_of caller) call) whole (in_range (number_of caller) call typed)

-- ---- the counts

-- the publications after a call that is one, or is none
abbrev published_by : Bool → ℕ → ℕ
published_by true n = n + 1
published_by false n = n

sound_counted : (o : Board) (t : Bool) → InLimits o.shape → Whole o.shape (o.length + 1) o → length o.lapics ≡ o.shape.cpus → o.length + 1 ≤ o.shape.calls → published_by t o.publications ≤ o.shape.publications → IsSound (with_counts t o)
sound_counted o t limits w places calls publications = subst IsSound (counts_are t) (record {
  limits = limits;
  registry = w.fine.sound;
  named = w.fine.named;
  distinct = w.fine.distinct;
  counts = record { number = counts.number; greatest = counts.greatest; triggers = counts.triggers };
  pending = w.each Part.Tick;
  lapics = record { places = places; numbers = λ n. w.each (Part.Lapic n) };
  entries = (w.each Part.Ioapic).entries;
  pic_holds = w.each Part.Pic;
  ioapic_holds = (w.each Part.Ioapic).holds;
  calls = calls;
  publications = publications;
})
  where
    counts : CountsFine o.registry o.shape.counters o.counters
    counts = w.each Part.Counters

    counts_are : (t : Bool) → record o { length = o.length + 1; publications = published_by t o.publications } ≡ with_counts t o
    counts_are t = grind arith

-- no limit bars the call
not_spent : (shape : Shape) (now many : ℕ) (t : Bool) → now ≤ shape.calls → many ≤ shape.publications → (if nat_eq now shape.calls then Some (Calls shape.calls) else if t && nat_eq many shape.publications then Some (Publications shape.publications) else None) ≡ None → (now + 1 ≤ shape.calls) × (published_by t many ≤ shape.publications)
not_spent shape now many t h1 h2 h3 = grind arith

each_of : (b : Board) → IsSound b → Each b.registry b.shape b.length b
each_of b s Part.Registry = refl
each_of b s Part.Counters = record { number = s.counts.number; greatest = s.counts.greatest; triggers = s.counts.triggers }
each_of b s Part.Tick = s.pending
each_of b s Part.Pic = s.pic_holds
each_of b s Part.Ioapic = record { entries = s.entries; holds = s.ioapic_holds }
each_of b s (Part.Lapic n) = s.lapics.numbers n

-- the frame of the board after a call, in its own terms
record Framed (b o : Board) (t : Bool) (shape : Shape) (now many : ℕ) : Type 0 where
  limits : InLimits shape
  whole : Whole shape (now + 1) o
  places : length o.lapics ≡ shape.cpus
  calls : now + 1 ≤ shape.calls
  publications : published_by t many ≤ shape.publications

pub steps_keep_sound : StepsKeepSound
steps_keep_sound b e c s typed step =
    let plan = plan_on b e.caller e.call in
    let o = (run plan b step.wishes).board in
    let t = would_publish b e.call in
    let frame = frame_stays plan b step.wishes in
    let spent = not_spent b.shape b.length b.publications t s.calls s.publications step.in_limits in
    let before : Framed b o t b.shape b.length b.publications = record {
      limits = s.limits;
      whole = call_whole b step.wishes (record { sound = s.registry; named = s.named; distinct = s.distinct }) (each_of b s) s.limits.counters e.caller e.call typed;
      places = frame.lapics ∙ s.lapics.places;
      calls = spent.0;
      publications = spent.1;
    } in
    let after : Framed b o t o.shape o.length o.publications = subst (λ (x : Shape × ℕ × ℕ). Framed b o t x.0 x.1 x.2) (λ i. (sym frame.shape i, sym frame.length i, sym frame.publications i)) before in
    subst IsSound step.leads (sound_counted o t after.limits after.whole after.places after.calls after.publications)

leads_to_sound : (b : Board) (es : List Entry) (last : Board) → IsSound b → All (λ (e : Entry). IsTyped e.call) es → Leads b es last → IsSound last
leads_to_sound b [] last s typed same = subst IsSound same s
leads_to_sound b (e ∷ es) last s typed (next, step, later) =
    leads_to_sound next es last (steps_keep_sound b e next s (All-head (λ (x : Entry). IsTyped x.call) e es typed) step) (All-tail (λ (x : Entry). IsTyped x.call) e es typed) later

pub histories_keep_sound : HistoriesKeepSound
histories_keep_sound shape es last limits typed leads = leads_to_sound (opening shape) es last (opening_is_sound shape limits) typed leads
