-- What calls leave: they acknowledge as they are to, or they tell no acknowledge at all.
use Rattle.board_laws.proofs.Basics.{Holds, Signals, inject_tick_holds, open_signals, open_raise, open_rings, open_replied, is_signal, Replied, line_holds, message_holds, write_holds, inject_count_holds, take_holds, tick_or_hold_holds, assign_holds, deassign_holds, reroute_holds, attach_holds, detach_holds, watch_holds, unwatch_holds, rung_holds, ioapic_store_holds, load_holds, pair_write_holds, pair_read_holds, lapic_store_holds, next_holds, inta_holds, eoi_holds, ◌≡◌, ℕ, ◌-◌, Bool, true, false, if◌then◌else◌, ◌⊎◌, inl, inr, Some, None, refl, Option, first_of, Call, Caller, Space, Refusal, Reply, Exit, Shape, is_port, ticked, tick_injects, rung_by, RegistryPart, Routing, routing_of_registry, Board, injected, the_reply, Plan, reply, Wishes, run, range_reasons, is_ioapic_address, is_lapic_address, unless_refused, line_set, message_sent, write, take, assign, deassign, reroute, attach, detach, watch, unwatch, end_of_interrupt, inta, next_interrupt, pair_write, pair_read, ioapic_store, lapic_store, rung, ring, store, load, number_of, io_row, plan_in_range, plan_of}
use Rattle.board_laws.proofs.ResamplingPlans.{AreQuiet, quiet, quiet_open, quiet_shows, same}
use Rattle.board_laws.proofs.ResamplingOwed.{Pays, pays, Settles, pays_accesses}

-- ---- calls without an acknowledge

replies : (r : Reply) → is_signal r ≡ false → Holds quiet (reply r)
replies r plain b ws fit = tt

signals : Signals quiet
signals = open_signals quiet quiet_open

module _ (r : RegistryPart) (shape : Shape) where
  abbrev routing : Routing
  routing = routing_of_registry r shape.tick

  replied : Replied quiet routing shape
  replied = open_replied quiet quiet_open routing shape replies (λ gsi b ws fit. tt) (λ pic. quiet_shows (the_reply pic))

  rings : (counter : Option ℕ) → Holds quiet (rung routing shape counter)
  rings = rung_holds quiet routing shape signals (open_rings quiet quiet_open routing shape replies (λ counter b ws fit. (refl, tt)) (λ gsi pic. quiet_shows (injected gsi pic))) replies

  -- ---- every call

  -- a run acknowledges as it is to, or tells no acknowledge
  abbrev pub Minded : Plan (Unit {0}) → Type 0
  Minded m = (b : Board) (ws : Wishes) → b.registry ≡ r → AreQuiet (run m b ws).log.events ⊎ Pays r b (run m b ws)

  quietly : (m : Plan (Unit {0})) → Holds quiet m → Minded m
  quietly m h = λ b ws is. inl (h b ws tt)

  acking : (m : Plan (Unit {0})) → Settles r m → Minded m
  acking m h = λ b ws is. inr (h b ws is)

  minded_if : (t : Bool) (m n : Plan (Unit {0})) → Minded m → Minded n → Minded (if t then m else n)
  minded_if true m n h k = h
  minded_if false m n h k = k

  minded_unless : (refusal : Option Refusal) (plan : Plan (Unit {0})) → Minded plan → Minded (unless_refused refusal plan)
  minded_unless None plan h = h
  minded_unless (Some refusal) plan h = λ b ws is. inl tt

  ringing : (space : Space) (address len value : ℕ) → Holds quiet (ring routing shape space address len value)
  ringing space address len value = λ b ws fit. rings (rung_by b.registry.ioevents space address len value) b ws tt

  store_minded : (n address len value : ℕ) → Minded (store routing shape n address len value)
  store_minded n address len value =
      let chip = ioapic_store shape (address - 0xfec00000) len value in
      let own = lapic_store routing shape n (address - 0xfee00000) len value in
      let other = ring routing shape Space.Memory address len value in
      minded_if (is_ioapic_address address) chip (if is_lapic_address address then own else other) (acking chip (ioapic_store_holds (pays r) routing shape (pays_accesses r shape) (address - 0xfec00000) len value))
      (minded_if (is_lapic_address address) own other (acking own (lapic_store_holds (pays r) routing shape (pays_accesses r shape) n (address - 0xfee00000) len value)) (quietly other (ringing Space.Memory address len value)))

  in_range : (n : ℕ) (call : Call) → Minded (plan_in_range routing shape n call)
  in_range n (Call.Line gsi line high) = quietly (line_set routing shape gsi line high) (line_holds quiet routing shape replied gsi line high)
  in_range n (Call.Msi address payload) = quietly (message_sent shape address payload) (message_holds quiet routing shape replied address payload)
  in_range n (Call.Write counter count) = quietly (write routing shape (routing.trigger counter) counter count) (write_holds quiet routing shape replied counter count (routing.trigger counter) refl)
  in_range n (Call.Take counter) = quietly (take counter) (take_holds quiet routing shape replies counter (λ b fit. tt))
  in_range n (Call.Assign trigger gsi resample) = quietly (assign routing shape trigger gsi resample) (assign_holds quiet routing shape replies (λ v b fit. tt) trigger gsi resample (λ counts b fit. tt) (inject_count_holds quiet routing shape signals gsi resample (open_raise quiet quiet_open _ _) (λ pic. quiet_shows (injected gsi pic))))
  in_range n (Call.Deassign trigger gsi) = quietly (deassign routing trigger gsi) (deassign_holds quiet routing shape replies (λ v b fit. tt) signals trigger gsi)
  in_range n (Call.Reroute rows) = quietly (reroute rows) (reroute_holds quiet routing shape replies (λ v b fit. tt) (λ holds b fit. tt) (λ holds b fit. tt) rows)
  in_range n (Call.Attach space address len counter want) = quietly (attach (io_row space address len counter want)) (attach_holds quiet routing shape replies (λ v b fit. tt) (io_row space address len counter want))
  in_range n (Call.Detach space address len counter want) = quietly (detach (io_row space address len counter want)) (detach_holds quiet routing shape replies (λ v b fit. tt) (io_row space address len counter want))
  in_range n (Call.Watch counter gsi) = quietly (watch counter gsi) (watch_holds quiet routing shape replies (λ v b fit. tt) counter gsi)
  in_range n (Call.Unwatch counter gsi) = quietly (unwatch counter gsi) (unwatch_holds quiet routing shape replies (λ v b fit. tt) counter gsi)
  in_range n Call.Tick = λ b ws is. inl (tick_or_hold_holds quiet routing shape replies (inject_tick_holds quiet routing shape signals (open_raise quiet quiet_open _ _) (λ status b fit. tt) (λ pic. the_reply pic) (λ pic. quiet_shows (the_reply pic))) (ticked b.tick) (tick_injects b.tick) (record b { tick = ticked b.tick }) ws tt)
  in_range n (Call.TickMode reinject) = λ b ws is. inl tt
  in_range n (Call.PortOut port len value) = minded_if (is_port port) (pair_write routing shape port len value) (ring routing shape Space.Port port len value) (acking (pair_write routing shape port len value) (pair_write_holds (pays r) routing shape (pays_accesses r shape) port len value)) (quietly (ring routing shape Space.Port port len value) (ringing Space.Port port len value))
  in_range n (Call.PortIn port len) = minded_if (is_port port) (pair_read routing shape port len) (reply Exit) (acking (pair_read routing shape port len) (pair_read_holds (pays r) routing shape (pays_accesses r shape) port len)) (quietly (reply Exit) (λ b ws fit. tt))
  in_range n (Call.Store address len value) = store_minded n address len value
  in_range n (Call.Load address len) = acking (load n address len) (load_holds (pays r) routing shape (pays_accesses r shape) n address len)
  in_range n Call.Ack = acking (next_interrupt routing shape n) (next_holds (pays r) routing shape (pays_accesses r shape) (λ n b fit. same r refl refl refl refl fit) (λ n b fit. same r refl refl refl refl fit) n)
  in_range n Call.Inta = acking (inta routing shape) (inta_holds (pays r) routing shape (pays_accesses r shape))
  in_range n Call.Eoi = acking (end_of_interrupt routing shape n) (eoi_holds (pays r) routing shape (pays_accesses r shape) n)

  pub call_minded : (caller : Caller) (call : Call) → Minded (plan_of routing shape caller call)
  call_minded caller call = minded_unless (first_of (range_reasons shape call)) (plan_in_range routing shape (number_of caller) call) (in_range (number_of caller) call)
