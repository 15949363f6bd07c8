-- Each step of an acknowledge in code does what its plan gives.
use Rattle.std.proofs.Common.{◌≡◌, ℕ, ◌<◌, Bool, true, false, not, nat_eq, if◌then◌else◌, List, [], ◌∷◌, ◌++◌, length, Some, None, Ok, Err, true≢false, refl, sym, ap, ◌∙◌, subst, arith}
use Rattle.std.specs.Prelude.{Result, IfOk, IfErr, IfSome, is_some, option_map}
use Rattle.std.specs.declared.option.Option.{Option}
use Rattle.irq_base.specs.declared.event.Event.{Event}
use Rattle.irq_base.specs.declared.event.Event.TheVariants.{Acked, Injected, Resent}
use Rattle.irq_base.specs.declared.event.Pin.{Pin}
use Rattle.irq_base.specs.declared.event.Pin.TheVariants as pins
use Rattle.irq_base.specs.declared.message.Message.{Message}
use Rattle.irq_base.specs.declared.message.Source.TheVariants as sources
use Rattle.irq_base.specs.declared.message.Targets.{Targets}
use Rattle.irq_base.specs.declared.shape.Part.{Part}
use Rattle.irq_base.specs.declared.shape.Part.TheVariants.{Registry, Counters, Tick, Pic, Ioapic}
use Rattle.irq_base.specs.declared.shape.Shape.{Shape}
use Rattle.irq_base.specs.declared.status.Status.{Status}
use Rattle.irq_base.specs.declared.status.Status.TheVariants as statuses
use Rattle.irq_base.specs.Room.{with_told}
use Rattle.irqfd_set.specs.Rows.{has_resampler}
use Rattle.resampler.specs.Resample.{resampled, resample_events}
use Rattle.ioapic_82093aa.specs.declared.ioapic.Ioapic.{Ioapic as Chip}
use Rattle.ioapic_82093aa.specs.Pins.{entry_at, pin_acked, resend_of}
use Rattle.tick_reinject.specs.Ticks.{is_ignored, tick_injected}
use Rattle.board_model.specs.Board.{Board, ValueOf}
use Rattle.board_model.specs.Registry.{RegistryPart}
use Rattle.board_model.specs.Routing.{Routing}
use Rattle.board_model.specs.Chips as chips
use Rattle.board_model.specs.Chips.{with_ioapic}
use Rattle.board_model.specs.Hand.{Parts, part_in}
use Rattle.board_model.specs.Statuses.{TargetAnswer}
use Rattle.board_model.specs.Plan.{About, resent, Plan, done, look, change, say, ◌>>=◌, ◌>>◌}
use Rattle.board_model.specs.Run.{silence, Wishes, reaches, OnParts, gives, lacks, run_on}
use Rattle.board_raise.specs.declared.lacks.Lacks.{Lacks}
use Rattle.board_raise.specs.declared.parts.Parts as code
use Rattle.board_raise.specs.declared.parts.IoPart as io
use Rattle.board_raise.specs.Fit.{IoapicFits, PinsFit}
use Rattle.board_raise.specs.InHand.{ioapic_of, parts_of, chips_of}
use Rattle.board_raise.specs.Send.{send}
use Rattle.board_raise.specs.Signal.{is_accepted, accept_pin, send_of_pin, let_go, inject}
use Rattle.board_raise.specs.Told.{answer_in, events_told, IsOfMessage}
use Rattle.board_raise.specs.Shown.{EndsWith, StopsAt, Place, in_event, about_at, events_at, replies_at, without_sets, Shows, ShowsSent, IsNeeded, HoldsNeeded}
use Rattle.board_raise.proofs.Telling.{shown_alone}
use Rattle.board_raise.proofs.PinsInHand.{chip_is}
use Rattle.board_raise.proofs.Composing.{bind-assoc, ends_as, then_ends, then_quiet, then_stops, stops_first, then_done, stops_needs, ends_holds}
use Rattle.board_ack.specs.Ticks.{inject_tick, inject_next, free_tick, acknowledge_tick}
use Rattle.board_ack.specs.Acknowledge.{signal_each, see_concerned, resample, notify, concern, tell_concerned, resend, clear_and_resend, end_level, end_tick, acknowledge}
use Rattle.board_ack.specs.ReachLaws.{of_acknowledge}
use Rattle.board_ack.specs.OnHand.{Adds, ShowsTick, HoldsConcerned, clear_entry, end_entry, entry_ended, sent_again}
use Rattle.board_ack.proofs.ReachAcknowledge.{acknowledges_reach_the_same}
use Rattle.board_ack.proofs.Adding.{looked, wrote, then_adds, quiet_adds, adds_adds, nothing_adds, ends_adds, adds_as}

-- ---- steps 2 and 3

some_of : {A : Type 0} (o : Option A) → is_some o ≡ true → (a : A) × (o ≡ Some a)
some_of None h = absurd (true≢false (sym h))
some_of (Some a) h = (a, refl)

module _ (q : Parts) (ws : Wishes) (all : HoldsConcerned q) where
  sees : (r : RegistryPart) → q.registry ≡ Some r → run_on see_concerned q ws ≡ gives r silence q ws
  sees r h =
      let counters = some_of q.counters all.counters in
      let tick = some_of q.tick all.tick in
      let pic = some_of q.pic all.pic in
      let ioapic = some_of q.ioapic all.ioapic in
      looked Registry (λ x. look Counters (λ _. look Tick (λ _. look Pic (λ _. look Ioapic (λ _. done x))))) q ws r h
      ∙ looked Counters (λ _. look Tick (λ _. look Pic (λ _. look Ioapic (λ _. done r)))) q ws counters.0 counters.1
      ∙ looked Tick (λ _. look Pic (λ _. look Ioapic (λ _. done r))) q ws tick.0 tick.1
      ∙ looked Pic (λ _. look Ioapic (λ _. done r)) q ws pic.0 pic.1
      ∙ looked Ioapic (λ _. done r) q ws ioapic.0 ioapic.1

  sees_ends : (r : RegistryPart) → q.registry ≡ Some r → EndsWith r [] [] q ws (run_on see_concerned q ws)
  sees_ends r h = subst (EndsWith r [] [] q ws) (sym (sees r h)) (record { value_is = refl; events_are = refl; replies_are = refl; parts = refl; wishes = refl })

  module _ (targets : Targets) (gsi : ℕ) (old mid new : List Event) where
    abbrev rest : RegistryPart → Plan (Unit {0})
    rest r = resample targets gsi r >> notify gsi r

    pub concern_adds : (s after : Parts) (result : Result (Unit {0}) Lacks)
        → ((r : RegistryPart) → q.registry ≡ Some r → Adds (Ok tt) old mid s ws (run_on (resample targets gsi r) q ws))
        → ((r : RegistryPart) → q.registry ≡ Some r → Adds result mid new after ws (run_on (notify gsi r) s ws))
        → Adds result old new after ws (run_on (concern targets gsi) q ws)
    concern_adds s after result first next =
        let r = some_of q.registry all.registry in
        quiet_adds rest see_concerned q ws r.0 q ws old new after ws result (sees_ends r.0 r.1)
        (adds_adds (resample targets gsi r.0) (notify gsi r.0) q ws s ws old mid new after ws result (first r.0 r.1) (next r.0 r.1))

    pub concern_stops : (part : Part) → ((r : RegistryPart) → q.registry ≡ Some r → StopsAt part (run_on (resample targets gsi r) q ws)) → StopsAt part (run_on (concern targets gsi) q ws)
    concern_stops part first =
        let r = some_of q.registry all.registry in
        then_stops rest see_concerned q ws r.0 [] [] q ws part (sees_ends r.0 r.1)
        (stops_first (λ _. notify gsi r.0) (resample targets gsi r.0) q ws part (first r.0 r.1))

pub concern_lacks : (targets : Targets) (gsi : ℕ) (q : Parts) (ws : Wishes) (part : Part) → StopsAt part (run_on see_concerned q ws) → StopsAt part (run_on (concern targets gsi) q ws)
concern_lacks targets gsi q ws part h = stops_first (λ r. resample targets gsi r >> notify gsi r) see_concerned q ws part h

module _ (targets : Targets) (gsi : ℕ) (r : RegistryPart) (q : Parts) (ws : Wishes) where
  abbrev lets_go : Plan (Unit {0})
  lets_go = let_go targets sources.Resample

  abbrev signals : Plan (Unit {0})
  signals = signal_each (resampled r.irqfds gsi) (resample_events r.irqfds gsi)

  pub no_resampler : (old : List Event) → has_resampler r.irqfds gsi ≡ false → Adds (Ok tt) old old q ws (run_on (resample targets gsi r) q ws)
  no_resampler old h = subst (λ t. Adds (Ok tt) old old q ws (run_on (if not t then done tt else (lets_go >> signals)) q ws)) (sym h) (nothing_adds old q ws)

  pub resample_adds : (s after : Parts) (old new : List Event) (result : Result (Unit {0}) Lacks) → has_resampler r.irqfds gsi ≡ true → EndsWith tt [] [] s ws (run_on lets_go q ws) → Adds result old new after ws (run_on signals s ws) → Adds result old new after ws (run_on (resample targets gsi r) q ws)
  resample_adds s after old new result h first next =
      subst (λ t. Adds result old new after ws (run_on (if not t then done tt else (lets_go >> signals)) q ws)) (sym h)
      (quiet_adds (λ _. signals) lets_go q ws tt s ws old new after ws result first next)

  pub resample_stops : (part : Part) → has_resampler r.irqfds gsi ≡ true → StopsAt part (run_on lets_go q ws) → StopsAt part (run_on (resample targets gsi r) q ws)
  resample_stops part h first = subst (λ t. StopsAt part (run_on (if not t then done tt else (lets_go >> signals)) q ws)) (sym h) (stops_first (λ _. signals) lets_go q ws part first)

-- where the GSI is not marked, or there is none
module _ (routing : Routing) (q : Parts) (ws : Wishes) where
  pub not_marked : (gsi : Option ℕ) (g : ℕ) (old : List Event) → gsi ≡ Some g → routing.marked g ≡ false → Adds (Ok tt) old old q ws (run_on (tell_concerned routing gsi) q ws)
  not_marked gsi g old is h =
      subst (λ (x : Option ℕ). Adds (Ok tt) old old q ws (run_on (tell_concerned routing x) q ws)) (sym is)
      (subst (λ t. Adds (Ok tt) old old q ws (run_on (if t then concern (routing.targets g) g else done tt) q ws)) (sym h) (nothing_adds old q ws))

  pub marked_adds : (gsi : Option ℕ) (g : ℕ) (targets : Targets) (old new : List Event) (after : Parts) (later : Wishes) (result : Result (Unit {0}) Lacks) → gsi ≡ Some g → routing.marked g ≡ true → targets ≡ routing.targets g
      → Adds result old new after later (run_on (concern targets g) q ws) → Adds result old new after later (run_on (tell_concerned routing gsi) q ws)
  marked_adds gsi g targets old new after later result is h to next =
      subst (λ (x : Option ℕ). Adds result old new after later (run_on (tell_concerned routing x) q ws)) (sym is)
      (subst (λ t. Adds result old new after later (run_on (if t then concern (routing.targets g) g else done tt) q ws)) (sym h)
      (subst (λ (t : Targets). Adds result old new after later (run_on (concern t g) q ws)) to next))

-- ---- step 4

pub pins_with : (p : code.Parts) (part : io.IoPart) → PinsFit (chips_of p) → IoapicFits part.ioapic part.levels → PinsFit (chips_of (record p { ioapic = Some part }))
pins_with p part fits fit = record { pic = fits.pic; ioapic = fit }

-- what is sent again, by the chip as it is after the acknowledge
pub sent_by : (pin : ℕ) (part : chips.IoapicPart) (after : io.IoPart) → ioapic_of after ≡ with_ioapic part (pin_acked (chips.ioapic_of part) pin) → IoapicFits after.ioapic after.levels → resend_of after.ioapic pin ≡ resend_of (pin_acked (chips.ioapic_of part) pin) pin
sent_by pin part after is fits = ap (λ c. resend_of c pin) (chip_is after fits ∙ ap chips.ioapic_of is)

module _ (pin : ℕ) (p : code.Parts) (part after : io.IoPart) (there : p.ioapic ≡ Some part) (message : Option Message) (ws : Wishes) where
  abbrev was : chips.IoapicPart
  was = ioapic_of part

  abbrev ended : chips.IoapicPart → Plan (Option Message)
  ended v = if (entry_at (chips.ioapic_of v) pin).level then clear_entry pin v else done None

  abbrev left : Parts
  left = parts_of (record p { ioapic = Some after })

  held : part_in (parts_of p) Ioapic ≡ Some was
  held = ap (option_map ioapic_of) there

  pub entry_ends : ioapic_of after ≡ entry_ended was pin → message ≡ sent_again was pin → EndsWith message [] [] left ws (run_on (end_entry pin) (parts_of p) ws)
  entry_ends is tells = subst (EndsWith message [] [] left ws) (sym (looked Ioapic ended (parts_of p) ws was held)) (by ((entry_at (chips.ioapic_of was) pin).level) is tells)
    where
      by : (t : Bool) → ioapic_of after ≡ (if t then with_ioapic was (pin_acked (chips.ioapic_of was) pin) else was) → message ≡ (if t then resend_of (pin_acked (chips.ioapic_of was) pin) pin else None)
          → EndsWith message [] [] left ws (run_on (if t then clear_entry pin was else done None) (parts_of p) ws)
      by true is tells =
          subst (EndsWith message [] [] left ws)
          (sym (wrote Ioapic (with_ioapic was (pin_acked (chips.ioapic_of was) pin)) (done (resend_of (pin_acked (chips.ioapic_of was) pin) pin)) (parts_of p) ws was held))
          (record { value_is = tells; events_are = refl; replies_are = refl; parts = ap (λ (x : chips.IoapicPart). record (parts_of p) { ioapic = Some x }) is; wishes = refl })
      by false is tells = record {
        value_is = tells;
        events_are = refl;
        replies_are = refl;
        parts = ap (λ (x : chips.IoapicPart). record (parts_of p) { ioapic = Some x }) is ∙ ap (λ (o : Option chips.IoapicPart). record (parts_of p) { ioapic = o }) (sym held);
        wishes = refl;
      }

-- an entry that ends is one that is cleared, and what is sent again
ends_so : (cpus pin : ℕ) → end_level cpus (pins.Ioapic pin) ≡ (end_entry pin >>= resend cpus pin)
ends_so cpus pin = λ i. look Ioapic (λ part. by part ((entry_at (chips.ioapic_of part) pin).level) i)
  where
    by : (part : chips.IoapicPart) (t : Bool) → (if t then clear_and_resend cpus pin part else done tt) ≡ ((if t then clear_entry pin part else done None) >>= resend cpus pin)
    by part true = refl
    by part false = refl

-- a message that is sent again is one of the pin
sent_so : (cpus pin : ℕ) (message : Message) → (send_of_pin cpus pin message (resent pin) >>= (λ _. done tt)) ≡ resend cpus pin (Some message)
sent_so cpus pin message =
    bind-assoc (λ answer. accept_pin pin (is_accepted message answer) >> done answer) (λ _. done tt) (send cpus message None (resent pin))
    ∙ ap (λ f. send cpus message None (resent pin) >>= f) (λ i answer. ends (is_accepted message answer) answer i)
  where
    ends : (t : Bool) (answer : TargetAnswer) → (accept_pin pin t >> done answer >>= (λ _. done tt)) ≡ accept_pin pin t
    ends true answer = refl
    ends false answer = refl

module _ (cpus pin : ℕ) (q : Parts) (ws : Wishes) where
  pub level_lacks : (part : Part) → StopsAt part (run_on (end_entry pin) q ws) → StopsAt part (run_on (end_level cpus (pins.Ioapic pin)) q ws)
  level_lacks part h = subst (λ m. StopsAt part (run_on m q ws)) (sym (ends_so cpus pin)) (stops_first (resend cpus pin) (end_entry pin) q ws part h)

  pub level_goes : (message : Option Message) (r : Parts) (vs : Wishes) → EndsWith message [] [] r vs (run_on (end_entry pin) q ws) → (result : Result (Unit {0}) Lacks) (old new : List Event) (after : Parts) (later : Wishes)
      → Adds result old new after later (run_on (resend cpus pin message) r vs) → Adds result old new after later (run_on (end_level cpus (pins.Ioapic pin)) q ws)
  level_goes message r vs first result old new after later next =
      subst (λ m. Adds result old new after later (run_on m q ws)) (sym (ends_so cpus pin)) (quiet_adds (resend cpus pin) (end_entry pin) q ws message r vs old new after later result first next)

  module _ (again : Message) where
    pub resent_adds : (status : Status) (old new : List Event) (after : Parts) (later : Wishes) → IsOfMessage status → new ≡ with_told old (Resent pin status ∷ []) → ShowsSent (resent pin) (Ok status) after later (run_on (send_of_pin cpus pin again (resent pin)) q ws)
        → Adds (Ok tt) old new after later (run_on (resend cpus pin (Some again)) q ws)
    resent_adds status old new after later alone tells h =
        subst (λ m. Adds (Ok tt) old new after later (run_on m q ws)) (sent_so cpus pin again)
        (ends_adds (Resent pin status ∷ []) old new after later (run_on (send_of_pin cpus pin again (resent pin) >>= (λ _. done tt)) q ws) tells
        (subst (λ s. EndsWith tt (Resent pin s ∷ []) [] after later (run_on (send_of_pin cpus pin again (resent pin) >>= (λ _. done tt)) q ws)) (shown_alone status alone)
        (then_done (λ _. tt) (send_of_pin cpus pin again (resent pin)) q ws (answer_in status) (events_told (resent pin) status) [] after later h)))

    pub resent_stops : (part : Part) → StopsAt part (run_on (send_of_pin cpus pin again (resent pin)) q ws) → StopsAt part (run_on (resend cpus pin (Some again)) q ws)
    resent_stops part h = subst (λ m. StopsAt part (run_on m q ws)) (sent_so cpus pin again) (stops_first (λ _. done tt) (send_of_pin cpus pin again (resent pin)) q ws part h)

-- ---- step 5

ignored_same : (status : Status) → is_ignored (without_sets status) ≡ is_ignored status
ignored_same (statuses.Delivered new stood pic) = refl
ignored_same (statuses.Coalesced stood) = refl
ignored_same (statuses.Ignored cause) = refl
ignored_same statuses.Lowered = refl

module _ (routing : Routing) (shape : Shape) (place : Place) (q : Parts) (ws : Wishes) where
  abbrev freed : Status → Plan (Unit {0})
  freed status = change Tick (λ tick. tick_injected tick status)

  abbrev injection : Plan Status
  injection = inject shape.cpus (routing.targets shape.tick) sources.Tick (about_at place)

  pub tick_lacks : (targets : Targets) (part : Part) → targets ≡ routing.targets shape.tick → StopsAt part (run_on (inject shape.cpus targets sources.Tick (about_at place)) q ws) → StopsAt part (run_on (inject_tick routing shape (about_at place)) q ws)
  tick_lacks targets part to h = stops_first freed injection q ws part (subst (λ (t : Targets). StopsAt part (run_on (inject shape.cpus t sources.Tick (about_at place)) q ws)) to h)

  module _ (targets : Targets) (status : Status) (r : Parts) (vs : Wishes) (to : targets ≡ routing.targets shape.tick) (first : Shows place (Ok status) r vs (run_on (inject shape.cpus targets sources.Tick (about_at place)) q ws)) where
    shown : Shows place (Ok status) r vs (run_on injection q ws)
    shown = subst (λ (t : Targets). Shows place (Ok status) r vs (run_on (inject shape.cpus t sources.Tick (about_at place)) q ws)) to first

    -- the tick state is told the status but for its sets, which is all that it asks
    freed_same : freed status ≡ freed (without_sets status)
    freed_same = ap (λ t. change Tick (λ tick. if tick.reinjects then record tick { free = t } else tick)) (sym (ignored_same status))

    pub tick_shows : (s : Parts) (us : Wishes) → EndsWith tt [] [] s us (run_on (freed status) r vs) → ShowsTick place (Ok status) s us (run_on (inject_tick routing shape (about_at place)) q ws)
    tick_shows s us h =
        then_quiet freed injection q ws (without_sets status) (events_at place status) (replies_at place status) r vs tt s us shown
        (subst (λ m. EndsWith tt [] [] s us (run_on m r vs)) freed_same h)

    pub tick_stops : (part : Part) → StopsAt part (run_on (freed status) r vs) → StopsAt part (run_on (inject_tick routing shape (about_at place)) q ws)
    tick_stops part h =
        then_stops freed injection q ws (without_sets status) (events_at place status) (replies_at place status) r vs part shown
        (subst (λ m. StopsAt part (run_on m r vs)) freed_same h)

module _ (routing : Routing) (shape : Shape) (gsi : Option ℕ) (g : ℕ) (is : gsi ≡ Some g) (q : Parts) (ws : Wishes) where
  pub other_gsi : (old : List Event) → (g ≡ shape.tick → ⊥) → Adds (Ok tt) old old q ws (run_on (end_tick routing shape gsi) q ws)
  other_gsi old apart =
      let t : nat_eq g shape.tick ≡ false = grind (arith, apart) in
      subst (λ (x : Option ℕ). Adds (Ok tt) old old q ws (run_on (end_tick routing shape x) q ws)) (sym is)
      (subst (λ t. Adds (Ok tt) old old q ws (run_on (if t then acknowledge_tick routing shape else done tt) q ws)) (sym t) (nothing_adds old q ws))

  module _ (same : g ≡ shape.tick) where
    test : nat_eq g shape.tick ≡ true
    test = grind (arith, same)

    at_tick : end_tick routing shape gsi ≡ acknowledge_tick routing shape
    at_tick = ap (end_tick routing shape) is ∙ ap (λ t. if t then acknowledge_tick routing shape else done tt) test

    pub end_tick_lacks : (part : Part) → StopsAt part (run_on free_tick q ws) → StopsAt part (run_on (end_tick routing shape gsi) q ws)
    end_tick_lacks part h = subst (λ m. StopsAt part (run_on m q ws)) (sym at_tick) (stops_first (inject_next routing shape) free_tick q ws part h)

    module _ (injects : Bool) (r : Parts) (vs : Wishes) (first : EndsWith injects [] [] r vs (run_on free_tick q ws)) where
      pub no_next : (old : List Event) → injects ≡ false → Adds (Ok tt) old old r vs (run_on (end_tick routing shape gsi) q ws)
      no_next old h =
          subst (λ m. Adds (Ok tt) old old r vs (run_on m q ws)) (sym at_tick)
          (quiet_adds (inject_next routing shape) free_tick q ws injects r vs old old r vs (Ok tt) first (subst (λ t. Adds (Ok tt) old old r vs (run_on (inject_next routing shape t) r vs)) (sym h) (nothing_adds old r vs)))

      module _ (next : injects ≡ true) where
        pub next_injected : (status : Status) (old new : List Event) (after : Parts) (later : Wishes) → new ≡ with_told old (Injected shape.tick status ∷ []) → ShowsTick (in_event shape.tick) (Ok status) after later (run_on (inject_tick routing shape (about_at (in_event shape.tick))) r vs)
            → Adds (Ok tt) old new after later (run_on (end_tick routing shape gsi) q ws)
        next_injected status old new after later tells h =
            subst (λ m. Adds (Ok tt) old new after later (run_on m q ws)) (sym at_tick)
            (quiet_adds (inject_next routing shape) free_tick q ws injects r vs old new after later (Ok tt) first
            (subst (λ t. Adds (Ok tt) old new after later (run_on (inject_next routing shape t) r vs)) (sym next)
            (ends_adds (Injected shape.tick status ∷ []) old new after later (run_on (inject_tick routing shape (about_at (in_event shape.tick))) r vs) tells h)))

        pub next_stops : (part : Part) → StopsAt part (run_on (inject_tick routing shape (about_at (in_event shape.tick))) r vs) → StopsAt part (run_on (end_tick routing shape gsi) q ws)
        next_stops part h =
            subst (λ m. StopsAt part (run_on m q ws)) (sym at_tick)
            (then_stops (inject_next routing shape) free_tick q ws injects [] [] r vs part first (subst (λ t. StopsAt part (run_on (inject_next routing shape t) r vs)) (sym next) h))

-- ---- all five

module _ (routing : Routing) (shape : Shape) (pin : Pin) (gsi : Option ℕ) (named : gsi ≡ routing.gsi_of pin) (q : Parts) (ws : Wishes) where
  abbrev pub later_steps : Plan (Unit {0})
  later_steps = end_level shape.cpus pin >> end_tick routing shape gsi

  module _ (result : Result (Unit {0}) Lacks) (old first new : List Event) (after : Parts) (later : Wishes) where
    pub acked_adds : first ≡ with_told old (Acked pin gsi ∷ []) → Adds result first new after later (run_on (tell_concerned routing gsi >> later_steps) q ws) → Adds result old new after later (run_on (acknowledge routing shape pin) q ws)
    acked_adds tells h =
        subst (λ (g : Option ℕ). Adds result old new after later (run_on (say (Acked pin g) >> (tell_concerned routing g >> (end_level shape.cpus pin >> end_tick routing shape g))) q ws)) named
        (then_adds (λ _. tell_concerned routing gsi >> later_steps) (say (Acked pin gsi)) q ws tt (Acked pin gsi ∷ []) q ws old first new after later result tells (record { value_is = refl; events_are = refl; replies_are = refl; parts = refl; wishes = refl }) h)

  pub acknowledge_needs : (part : Part) → StopsAt part (run_on (acknowledge routing shape pin) q ws) → IsNeeded part q (λ b. of_acknowledge routing shape b pin)
  acknowledge_needs part h = stops_needs (acknowledge routing shape pin) q ws (λ b. of_acknowledge routing shape b pin) (λ b p. (acknowledges_reach_the_same routing shape b ws p).one pin) part h

  pub acknowledge_holds : (old new : List Event) (after : Parts) (later : Wishes) → Adds (Ok tt) old new after later (run_on (acknowledge routing shape pin) q ws) → HoldsNeeded q (λ b. of_acknowledge routing shape b pin)
  acknowledge_holds old new after later h = by (run_on (acknowledge routing shape pin) q ws) refl h
    where
      by : (o : OnParts (Unit {0})) → run_on (acknowledge routing shape pin) q ws ≡ o → Adds (Ok tt) old new after later o → HoldsNeeded q (λ b. of_acknowledge routing shape b pin)
      by (gives c l left others) e a =
          ends_holds (acknowledge routing shape pin) q ws (λ b. of_acknowledge routing shape b pin) (λ b p. (acknowledges_reach_the_same routing shape b ws p).one pin) c l.events l.answers left others
          (subst (EndsWith c l.events l.answers left others) (sym e) (record { value_is = refl; events_are = refl; replies_are = refl; parts = refl; wishes = refl }))
      by (lacks p) e a = absurd a

  pub acknowledge_lacks : (old new : List Event) (after : Parts) (later : Wishes) (result : Result (Unit {0}) Lacks) → Adds result old new after later (run_on (acknowledge routing shape pin) q ws) → IfErr result (λ l. IsNeeded l.part q (λ b. of_acknowledge routing shape b pin))
  acknowledge_lacks old new after later (Ok u) h = tt
  acknowledge_lacks old new after later (Err l) h = acknowledge_needs l.part h

  pub acknowledge_reached : (old new : List Event) (after : Parts) (later : Wishes) (result : Result (Unit {0}) Lacks) → Adds result old new after later (run_on (acknowledge routing shape pin) q ws) → IfOk result (λ _. HoldsNeeded q (λ b. of_acknowledge routing shape b pin))
  acknowledge_reached old new after later (Ok u) h = acknowledge_holds old new after later h
  acknowledge_reached old new after later (Err l) h = tt
