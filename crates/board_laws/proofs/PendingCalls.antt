-- Each call but Ack loses no request.
use Rattle.board_laws.proofs.Basics.{Walk, Holds, Signals, MayRaise, tells_by, acks_hold, end_level_holds, resend_holds, inject_tick_holds, is_signal, Accesses, Replied, cycle_at, line_holds, message_holds, write_holds, inject_count_holds, take_holds, tick_or_hold_holds, tick_mode_holds, assign_holds, deassign_holds, reroute_holds, attach_holds, detach_holds, watch_holds, unwatch_holds, rung_holds, port_out_holds, port_in_holds, store_holds, load_holds, inta_holds, eoi_holds, unless_holds, ◌≡◌, ℕ, false, List, refl, ◌∙◌, arith, Some, None, Option, greatest_vector, Call, Source, Targets, Refusal, Reply, Lapic, Tick, Shape, Pin, cycle, LocalApic, register_at, stored_at, store_to, without_service, ticked, tick_injects, Routing, part_of, Board, pair_of, TargetAnswer, About, injected, ipi, the_reply, reply, resent, Wishes, acknowledge_each, unless_refused, tick_or_hold, cycle_made, rung, io_row, plan_in_range, inject_tick, service_number, store_number, is_ack}
use Rattle.board_step.proofs.Walks.{written}
use Rattle.board_laws.proofs.PendingPlans.{same_requests, Fine, quiet, GoodRun, safe}
use Rattle.board_laws.proofs.PendingSends.{shows}

-- ---- what a local APIC keeps

service_irr : (a : LocalApic) (vector : Option ℕ) → (without_service a vector).irr ≡ a.irr
service_irr a vector = grind arith

service_nmi : (a : LocalApic) (vector : Option ℕ) → (without_service a vector).nmi ≡ a.nmi
service_nmi a vector = grind arith

module _ (routing : Routing) (shape : Shape) where
  abbrev w : Walk
  w = safe shape.cpus

  -- ---- what may be written

  signals : Signals w
  signals = record { accepts = λ pin b fine. tt; pic_leaves = λ pin source b fine. tt; ioapic_leaves = λ pin source b fine. tt }

  raises : (targets : Targets) (source : Source) → MayRaise w targets source
  raises targets source = record { pic = λ pin is b fine. tt; ioapic = λ pin is b fine. tt }

  replies : (r : Reply) → is_signal r ≡ false → Holds w (reply r)
  replies r plain b ws fine = quiet shape.cpus b.lapics fine

  tick_safe : (about : Option TargetAnswer → About) → Holds w (inject_tick routing shape about)
  tick_safe about = inject_tick_holds w routing shape signals (raises _ _) (λ status b fine. tt) about (λ pic. shows shape.cpus (about pic))

  acks_safe : (list : List Pin) → Holds w (acknowledge_each routing shape list)
  acks_safe = acks_hold w routing shape (λ pin b ws fine. quiet shape.cpus b.lapics fine) signals
      (tells_by w (λ counter b ws fine. quiet shape.cpus b.lapics fine) (λ counter b ws fine. quiet shape.cpus b.lapics fine) (λ registry gsi seen b fine. tt) (λ registry gsi seen b fine. tt))
      (record { levels = end_level_holds w shape.cpus signals (λ pin. shows shape.cpus (resent pin)) (λ pin b fine. tt); frees = λ b fine. tt; ticks = tick_safe (λ pic. injected shape.tick pic) })

  accesses : Accesses w routing shape
  accesses = record {
    acks = acks_safe;
    replies = replies;
    resends = λ pin message. resend_holds w shape.cpus signals pin (shows shape.cpus (resent pin)) message;
    ipis = (shows shape.cpus ipi).sends;
    pairs = λ pair b fine. tt;
    stores = λ offset value b fine. tt;
    registers = λ n offset value b fine. let a = part_of b (Lapic n) in (store_number a offset value ∙ fine.numbers n, same_requests a (store_to a offset value) (elim (register_at offset) as (λ o. (stored_at a o value).irr ≡ a.irr) [ None ↦ refl | Some register ↦ grind (arith, service_irr) ]) (elim (register_at offset) as (λ o. (stored_at a o value).nmi ≡ a.nmi) [ None ↦ refl | Some register ↦ grind (arith, service_nmi) ]));
    services = λ n b fine. let a = part_of b (Lapic n) in let v = greatest_vector a.isr in (service_number a v ∙ fine.numbers n, same_requests a (without_service a v) (service_irr a v) (service_nmi a v));
  }

  replied : Replied w routing shape
  replied = record {
    signals = signals;
    plain = replies;
    lowers = λ gsi b ws fine. quiet shape.cpus b.lapics fine;
    shows = λ pic. shows shape.cpus (the_reply pic);
    lines = λ gsi line. raises _ _;
    fires = λ counter trigger is. raises _ _;
    counts = λ counter n none b fine kept. tt;
  }

  rings : (counter : Option ℕ) → Holds w (rung routing shape counter)
  rings = rung_holds w routing shape signals (record { rang = λ counter b ws fine. quiet shape.cpus b.lapics fine; signals = λ counter none b fine. tt; fires = λ counter trigger is. raises _ _; injects = λ gsi pic. shows shape.cpus (injected gsi pic) }) replies

  pub cycle_safe : (answer : Reply) → is_signal answer ≡ false → (b : Board) (ws : Wishes) → Fine shape.cpus b.lapics → GoodRun shape.cpus (cycle_made routing shape b.pic (cycle (pair_of b.pic)) answer) b ws
  cycle_safe = cycle_at w routing shape accesses

  -- ---- each call but Ack

  in_range_safe : (n : ℕ) (call : Call) → is_ack call ≡ false → Holds w (plan_in_range routing shape n call)
  in_range_safe n (Call.Line gsi line high) other = line_holds w routing shape replied gsi line high
  in_range_safe n (Call.Msi address payload) other = message_holds w routing shape replied address payload
  in_range_safe n (Call.Write counter count) other = write_holds w routing shape replied counter count (routing.trigger counter) refl
  in_range_safe n (Call.Take counter) other = take_holds w routing shape replies counter (λ b fine. tt)
  in_range_safe n (Call.Assign trigger gsi resample) other = assign_holds w routing shape replies (λ r b fine. tt) trigger gsi resample (λ counts b fine. tt)
      (inject_count_holds w routing shape signals gsi resample (raises _ _) (λ pic. shows shape.cpus (injected gsi pic)))
  in_range_safe n (Call.Deassign trigger gsi) other = deassign_holds w routing shape replies (λ r b fine. tt) signals trigger gsi
  in_range_safe n (Call.Reroute rows) other = reroute_holds w routing shape replies (λ r b fine. tt) (λ holds b fine. tt) (λ holds b fine. tt) rows
  in_range_safe n (Call.Attach space address len counter want) other = attach_holds w routing shape replies (λ r b fine. tt) (io_row space address len counter want)
  in_range_safe n (Call.Detach space address len counter want) other = detach_holds w routing shape replies (λ r b fine. tt) (io_row space address len counter want)
  in_range_safe n (Call.Watch counter gsi) other = watch_holds w routing shape replies (λ r b fine. tt) counter gsi
  in_range_safe n (Call.Unwatch counter gsi) other = unwatch_holds w routing shape replies (λ r b fine. tt) counter gsi
  in_range_safe n Call.Tick other = written w Tick ticked (λ before. tick_or_hold routing shape (ticked before) (tick_injects before)) (λ b fine. tt) (λ before. tick_or_hold_holds w routing shape replies (tick_safe (λ pic. the_reply pic)) (ticked before) (tick_injects before))
  in_range_safe n (Call.TickMode reinject) other = tick_mode_holds w routing shape replies reinject (λ b fine. tt)
  in_range_safe n (Call.PortOut port len value) other = port_out_holds w routing shape accesses rings port len value
  in_range_safe n (Call.PortIn port len) other = port_in_holds w routing shape accesses port len
  in_range_safe n (Call.Store address len value) other = store_holds w routing shape accesses rings n address len value
  in_range_safe n (Call.Load address len) other = load_holds w routing shape accesses n address len
  in_range_safe n Call.Ack other = cc
  in_range_safe n Call.Inta other = inta_holds w routing shape accesses
  in_range_safe n Call.Eoi other = eoi_holds w routing shape accesses n

  -- a whole call, which may be refused
  pub call_safe : (refusal : Option Refusal) (n : ℕ) (call : Call) → is_ack call ≡ false → Holds w (unless_refused refusal (plan_in_range routing shape n call))
  call_safe refusal n call other = unless_holds w routing shape replies refusal (plan_in_range routing shape n call) (in_range_safe n call other)
