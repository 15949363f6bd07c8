-- What each call takes off the pending ticks, and which injections its events may tell.
use Rattle.board_laws.proofs.Basics.{Holds, after, inject_only, resend_holds, open_raise, open_replied, is_signal, Accesses, Replied, line_holds, message_holds, write_holds, inject_count_holds, take_holds, assign_holds, deassign_holds, reroute_holds, attach_holds, detach_holds, watch_holds, unwatch_holds, ring_holds, ioapic_store_holds, load_holds, pair_write_holds, port_in_holds, lapic_store_holds, next_holds, inta_holds, eoi_holds, unless_holds, ◌≡◌, ℕ, ◌-◌, Bool, true, false, true≢false, ◌||◌, ◌⊎◌, inl, inr, sym, arith, if◌then◌else◌, refl, Some, None, Option, first_of, Call, Caller, Space, Reply, Done, Exit, Held, Shape, TickState, TriggerWord, is_port, Routing, injected, ipi, the_reply, Plan, reply, ◌>>◌, resent, send, range_reasons, is_ioapic_address, is_lapic_address, line_set, message_sent, source_of, write, take, inject_count, assign, deassign, reroute, attach, detach, watch, unwatch, tick_or_hold, pair_write, ioapic_store, lapic_store, ring_counter, rung, ring, port_out, store, number_of, io_row, plan_in_range, plan_of, resend}
use Rattle.board_laws.proofs.ConservingQuiet.{still, still_open, still_signals, still_shows}
use Rattle.board_laws.proofs.ConservingAcks.{Conserving, conserving, quiet_conserving, tick_conserving, each_conserving}

-- ---- quiet calls

module _ (may : ℕ → Bool) (routing : Routing) (shape : Shape) where
  replies : (r : Reply) → is_signal r ≡ false → Holds (still may) (reply r)
  replies r plain b ws fit = (refl, tt)

  replied : Replied (still may) routing shape
  replied = open_replied (still may) (still_open may) routing shape replies (λ gsi b ws fit. (refl, tt)) (λ pic. still_shows may (the_reply pic) refl)

  count_quiet : (gsi : ℕ) (resample : Option ℕ) → may gsi ≡ true → (injects : Bool) → Holds (still may) (inject_count routing shape gsi resample injects)
  count_quiet gsi resample h = inject_count_holds (still may) routing shape (still_signals may) gsi resample (open_raise (still may) (still_open may) _ _) (λ pic. still_shows may (injected gsi pic) h)

  -- a counter that is rung, and the answer
  pub rung_quiet : (counter : ℕ) → ((g : ℕ) → may g ≡ true) → Holds (still may) (ring_counter routing shape counter (routing.trigger counter) >> reply Done)
  rung_quiet counter h = after (still may) (ring_counter routing shape counter (routing.trigger counter)) (reply Done) (by_trigger (routing.trigger counter)) (replies Done refl)
    where
      by_trigger : (trigger : Option TriggerWord) → Holds (still may) (ring_counter routing shape counter trigger)
      by_trigger None = λ b ws fit. (refl, tt)
      by_trigger (Some trigger) = inject_only (still may) shape.cpus (still_signals may) (routing.targets trigger.gsi) (source_of trigger.resample) (open_raise (still may) (still_open may) (routing.targets trigger.gsi) (source_of trigger.resample)) (λ pic. injected trigger.gsi pic) (λ pic. still_shows may (injected trigger.gsi pic) (h trigger.gsi))

-- ---- calls that conserve ticks

-- what a call needs to tell what may come: an Assign injects on its GSI, and guest writes may ring ioeventfds; those that set
-- the tick state are of another kind
abbrev pub Lets : Bool → (ℕ → Bool) → Call → Type 0
Lets rings may (Call.Assign trigger gsi resample) = may gsi ≡ true
Lets rings may (Call.PortOut port len value) = (is_port port ≡ true) ⊎ (rings ≡ true)
Lets rings may (Call.Store address len value) = ((is_ioapic_address address || is_lapic_address address) ≡ true) ⊎ (rings ≡ true)
Lets rings may Call.Tick = ⊥
Lets rings may (Call.TickMode reinject) = ⊥
Lets rings may _ = Unit {0}

module _ (routing : Routing) (shape : Shape) (rings : Bool) (may : ℕ → Bool) where
  abbrev pub Keeps : {A : Type 0} → Plan A → Type 0
  Keeps m = Holds (conserving shape.tick rings may) m

  quiet : {A : Type 0} (m : Plan A) → Holds (still may) m → Keeps m
  quiet m h = λ b ws fit. quiet_conserving shape.tick rings may m h b ws

  answers : (r : Reply) → is_signal r ≡ false → Keeps (reply r)
  answers r plain = quiet (reply r) (replies may routing shape r plain)

  accesses : Accesses (conserving shape.tick rings may) routing shape
  accesses = record {
    acks = λ list b ws fit. each_conserving routing shape rings may list b ws;
    replies = answers;
    resends = λ pin message. quiet (resend shape.cpus pin message) (resend_holds (still may) shape.cpus (still_signals may) pin (still_shows may (resent pin) refl) message);
    ipis = λ message from. quiet (send shape.cpus message from ipi) ((still_shows may ipi refl).sends message from);
    pairs = λ pair b fit. refl;
    stores = λ offset value b fit. refl;
    registers = λ n offset value b fit. refl;
    services = λ n b fit. refl;
  }

  -- the ioeventfd that a write rings: all that comes after may come
  ring_keeps : rings ≡ true → (space : Space) (address len value : ℕ) → Keeps (ring routing shape space address len value)
  ring_keeps h = ring_holds (conserving shape.tick rings may) routing shape accesses of_rung
    where
      of_rung : (counter : Option ℕ) → Keeps (rung routing shape counter)
      of_rung None = answers Exit refl
      of_rung (Some counter) = λ b ws fit.
          let r = quiet_conserving shape.tick rings (λ _. true) (ring_counter routing shape counter (routing.trigger counter) >> reply Done) (rung_quiet (λ _. true) routing shape counter (λ _. refl)) b ws in
          record { reinjects = r.reinjects; pending = λ on. (omega (arith, (r.pending on))); stays = r.stays; allowed = (h, r.allowed); singly = (refl, λ quiet. let never : true ≡ false = quiet in cc) }

  port_out_keeps : (port len value : ℕ) → (is_port port ≡ true) ⊎ (rings ≡ true) → Keeps (port_out routing shape port len value)
  port_out_keeps port len value h = elim (is_port port) as (λ t. (t ≡ true) ⊎ (rings ≡ true) → Keeps (if t then pair_write routing shape port len value else ring routing shape Space.Port port len value)) [
    | true ↦ λ _. pair_write_holds (conserving shape.tick rings may) routing shape accesses port len value
    | false ↦ λ g. ring_keeps (elim g [ inl e ↦ absurd (true≢false (sym e)) | inr e ↦ e ]) Space.Port port len value
  ] h

  store_keeps : (n address len value : ℕ) → ((is_ioapic_address address || is_lapic_address address) ≡ true) ⊎ (rings ≡ true) → Keeps (store routing shape n address len value)
  store_keeps n address len value h = elim (is_ioapic_address address) as (λ t. ((t || is_lapic_address address) ≡ true) ⊎ (rings ≡ true) → Keeps (if t then ioapic_store shape (address - 0xfec00000) len value else if is_lapic_address address then lapic_store routing shape n (address - 0xfee00000) len value else ring routing shape Space.Memory address len value)) [
    | true ↦ λ _. ioapic_store_holds (conserving shape.tick rings may) routing shape accesses (address - 0xfec00000) len value
    | false ↦ elim (is_lapic_address address) as (λ t. (t ≡ true) ⊎ (rings ≡ true) → Keeps (if t then lapic_store routing shape n (address - 0xfee00000) len value else ring routing shape Space.Memory address len value)) [
      | true ↦ λ _. lapic_store_holds (conserving shape.tick rings may) routing shape accesses n (address - 0xfee00000) len value
      | false ↦ λ g. ring_keeps (elim g [ inl e ↦ absurd (true≢false (sym e)) | inr e ↦ e ]) Space.Memory address len value
    ]
  ] h

  -- ---- each call

  pub in_range_keeps : (n : ℕ) (call : Call) → Lets rings may call → Keeps (plan_in_range routing shape n call)
  in_range_keeps n (Call.Line gsi line high) lets = quiet (line_set routing shape gsi line high) (line_holds (still may) routing shape (replied may routing shape) gsi line high)
  in_range_keeps n (Call.Msi address payload) lets = quiet (message_sent shape address payload) (message_holds (still may) routing shape (replied may routing shape) address payload)
  in_range_keeps n (Call.Write counter count) lets = quiet (write routing shape (routing.trigger counter) counter count) (write_holds (still may) routing shape (replied may routing shape) counter count (routing.trigger counter) refl)
  in_range_keeps n (Call.Take counter) lets = quiet (take counter) (take_holds (still may) routing shape (replies may routing shape) counter (λ b fit. refl))
  in_range_keeps n (Call.Assign trigger gsi resample) lets = quiet (assign routing shape trigger gsi resample) (assign_holds (still may) routing shape (replies may routing shape) (λ v b fit. refl) trigger gsi resample (λ counts b fit. refl) (count_quiet may routing shape gsi resample lets))
  in_range_keeps n (Call.Deassign trigger gsi) lets = quiet (deassign routing trigger gsi) (deassign_holds (still may) routing shape (replies may routing shape) (λ v b fit. refl) (still_signals may) trigger gsi)
  in_range_keeps n (Call.Reroute rows) lets = quiet (reroute rows) (reroute_holds (still may) routing shape (replies may routing shape) (λ v b fit. refl) (λ holds b fit. refl) (λ holds b fit. refl) rows)
  in_range_keeps n (Call.Attach space address len counter want) lets = quiet (attach (io_row space address len counter want)) (attach_holds (still may) routing shape (replies may routing shape) (λ v b fit. refl) (io_row space address len counter want))
  in_range_keeps n (Call.Detach space address len counter want) lets = quiet (detach (io_row space address len counter want)) (detach_holds (still may) routing shape (replies may routing shape) (λ v b fit. refl) (io_row space address len counter want))
  in_range_keeps n (Call.Watch counter gsi) lets = quiet (watch counter gsi) (watch_holds (still may) routing shape (replies may routing shape) (λ v b fit. refl) counter gsi)
  in_range_keeps n (Call.Unwatch counter gsi) lets = quiet (unwatch counter gsi) (unwatch_holds (still may) routing shape (replies may routing shape) (λ v b fit. refl) counter gsi)
  in_range_keeps n (Call.PortOut port len value) lets = port_out_keeps port len value lets
  in_range_keeps n (Call.PortIn port len) lets = port_in_holds (conserving shape.tick rings may) routing shape accesses port len
  in_range_keeps n (Call.Store address len value) lets = store_keeps n address len value lets
  in_range_keeps n (Call.Load address len) lets = load_holds (conserving shape.tick rings may) routing shape accesses n address len
  in_range_keeps n Call.Ack lets = next_holds (conserving shape.tick rings may) routing shape accesses (λ n b fit. refl) (λ n b fit. refl) n
  in_range_keeps n Call.Inta lets = inta_holds (conserving shape.tick rings may) routing shape accesses
  in_range_keeps n Call.Eoi lets = eoi_holds (conserving shape.tick rings may) routing shape accesses n
  in_range_keeps n Call.Tick lets = absurd lets
  in_range_keeps n (Call.TickMode reinject) lets = absurd lets

  -- a whole call, which may be refused
  pub call_keeps : (caller : Caller) (call : Call) → Lets rings may call → Conserving shape.tick rings may 0 (plan_of routing shape caller call)
  call_keeps caller call lets b ws = unless_holds (conserving shape.tick rings may) routing shape answers (first_of (range_reasons shape call)) (plan_in_range routing shape (number_of caller) call) (in_range_keeps (number_of caller) call lets) b ws tt

  -- a tick that falls injects, or is held back
  pub tick_keeps : (held : TickState) (injects : Bool) → Conserving shape.tick rings may 0 (tick_or_hold routing shape held injects)
  tick_keeps held true = tick_conserving routing shape rings may (λ pic. the_reply pic) (λ _. refl)
  tick_keeps held false = λ b ws. answers (Held held.pending) refl b ws tt
