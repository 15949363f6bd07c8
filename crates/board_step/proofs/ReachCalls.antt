-- What each call reaches is what the table says, whatever is wished.
use Rattle.board_step.proofs.Basics.{routing_on, ◌≡◌, ℕ, Bool, true, false, not, ◌&&◌, ◌||◌, nat_eq, nat_lt, if◌then◌else◌, [], ◌∷◌, ◌++◌, refl, sym, ap, ◌∙◌, Some, None, slice_index, is_some, Option, greatest_vector, first_of, Call, Refusal, Done, Removed, Extint, Vector, Part, Registry, Counters, Tick, Pic, Ioapic, Lapic, Shape, TickState, Irqfd, TriggerWord, has_output, cycle, LocalApic, message_in, tick_injects, ticked, taken, written, named_row, without_row, with_row, Board, part_of, with_part, is_same, pair_of, with_pair, Routing, injected, the_reply, reply, ◌>>◌, Wishes, reaches, send, raise, inject, let_go, of_message, of_fall, assign_reasons, write_reasons, attach_reasons, detach_reasons, watch_reasons, unwatch_reasons, range_reasons, unless_refused, source_of, assigned, inject_count, was_last_resampler, release, deassigned, tick_or_hold, end_vector, cycle_pins, cycle_made, hears_pair, give, give_of_pair, take_nmi, io_row, number_of, plan_in_range, set, or_false, sends_reach, signals_reach_the_same, ReachIsTable, gsi_same, twice, inject_tick_reach, Source, without_ioevent, with_watch, without_watch}
use Rattle.board_step.proofs.Basics.acks
use Rattle.board_step.specs.Reach as table
use Rattle.board_calls.specs.Registrations as registrations
use Rattle.board_step.proofs.ReachAccesses.{dropped, replied, refused_reach, within_one, inject_reach, answered_reach, port_out_reach, port_in_reach, ended_reach, store_reach, load_reach}

-- ---- truth values

either_again : (r c x : Bool) → (r || (c || (r || (c || x)))) ≡ (r || (c || x))
either_again true c x = refl
either_again false true x = refl
either_again false false x = refl

each_again : (r p i : Bool) → (r || (r || (p || (p || (i || (i || false)))))) ≡ (r || (p || i))
each_again true p i = refl
each_again false true i = refl
each_again false false true = refl
each_again false false false = refl

last_again : (l p : Bool) → (l || (p || (l || false))) ≡ (l || (p || false))
last_again true p = refl
last_again false p = refl

module _ (routing : Routing) (shape : Shape) (q : Part) where
  -- ---- lines, messages and counters

  line_reach : (gsi line : ℕ) (high : Bool) (n : ℕ) (b : Board) (ws : Wishes) → reaches (registrations.line_set routing shape gsi line high) b ws q ≡ table.of_call acks.of_acknowledge_each routing shape b n (Call.Line gsi line high) q
  line_reach gsi line true n b ws =
      dropped q (raise shape.cpus (routing.targets gsi) (Source.Line line) (λ pic. the_reply pic)) b ws
      ∙ (signals_reach_the_same shape.cpus (routing.targets gsi) (Source.Line line) (λ pic. the_reply pic) b ws q).raised
  line_reach gsi line false n b ws = (signals_reach_the_same shape.cpus (routing.targets gsi) (Source.Line line) (λ pic. the_reply pic) b ws q).fallen

  message_reach : (address payload : ℕ) (b : Board) (ws : Wishes) → reaches (registrations.message_sent shape address payload) b ws q ≡ of_message (message_in address payload) None shape.cpus q
  message_reach address payload b ws =
      dropped q (send shape.cpus (message_in address payload) None (the_reply None)) b ws
      ∙ sends_reach shape.cpus (message_in address payload) None (the_reply None) b ws q

  write_reach : (trigger : Option TriggerWord) (counter count : ℕ) (b : Board) (ws : Wishes) → reaches (registrations.write routing shape trigger counter count) b ws q ≡ table.of_write acks.of_acknowledge_each routing shape b trigger count q
  write_reach None counter count b ws = within_one q (is_same Counters q) (first_of (write_reasons b.counters counter count)) (set Counters (written b.counters counter count) >> reply Done) b ws refl
  write_reach (Some trigger) counter count b ws = elim (nat_eq count 0) as (λ t. reaches (if t then reply Done else registrations.trigger_written routing shape trigger) b ws q ≡ (not t && acks.of_gsi routing shape b trigger.gsi q)) [
    | true ↦ refl
    | false ↦
        dropped q (inject shape.cpus (routing.targets trigger.gsi) (source_of trigger.resample) (λ pic. the_reply pic)) b ws
        ∙ inject_reach routing shape q trigger.gsi (source_of trigger.resample) (λ pic. the_reply pic) b ws
  ]

  -- ---- registrations

  count_reach : (gsi : ℕ) (resample : Option ℕ) (t : Bool) (b : Board) (ws : Wishes) → reaches (inject_count routing shape gsi resample t >> reply Done) b ws q ≡ (t && acks.of_gsi routing shape b gsi q)
  count_reach gsi resample true b ws =
      replied q (inject_count routing shape gsi resample true) Done b ws
      ∙ dropped q (inject shape.cpus (routing.targets gsi) (source_of (is_some resample)) (λ pic. injected gsi pic)) b ws
      ∙ inject_reach routing shape q gsi (source_of (is_some resample)) (λ pic. injected gsi pic) b ws
  count_reach gsi resample false b ws = refl

  assign_reach : (trigger gsi : ℕ) (resample : Option ℕ) (b : Board) (ws : Wishes) → reaches (registrations.assign routing shape trigger gsi resample) b ws q
      ≡ (is_same Registry q || (is_same Counters q || (table.does_inject acks.of_acknowledge_each routing shape b trigger resample && acks.of_gsi routing shape b gsi q)))
  assign_reach trigger gsi resample b ws = by_reason (first_of (assign_reasons b.registry trigger resample))
    where
      has_count : Bool
      has_count = nat_lt 0 (slice_index b.counters trigger)

      later : Board
      later = with_part (with_part b Registry (record b.registry { irqfds = with_row b.registry.irqfds trigger gsi resample })) Counters (taken b.counters trigger)

      by_reason : (r : Option Refusal) → (is_same Registry q || (is_same Counters q || reaches (unless_refused r (assigned routing shape b.registry b.counters trigger gsi resample)) b ws q))
          ≡ (is_same Registry q || (is_same Counters q || ((not (is_some r) && has_count) && acks.of_gsi routing shape b gsi q)))
      by_reason None =
          either_again (is_same Registry q) (is_same Counters q) _
          ∙ ap (λ x. is_same Registry q || (is_same Counters q || x)) (count_reach gsi resample has_count later ws ∙ ap (λ x. has_count && x) (gsi_same routing shape later b gsi q refl))
      by_reason (Some refusal) = refl

  release_reach : (gsi : ℕ) (t : Bool) (b : Board) (ws : Wishes) → reaches (release routing gsi t >> reply (Removed 1)) b ws q ≡ (t && of_fall (routing.targets gsi) q)
  release_reach gsi true b ws =
      replied q (let_go (routing.targets gsi) Source.Resample) (Removed 1) b ws
      ∙ sym (replied q (let_go (routing.targets gsi) Source.Resample) _ b ws)
      ∙ (signals_reach_the_same shape.cpus (routing.targets gsi) Source.Resample (λ pic. the_reply pic) b ws q).fallen
  release_reach gsi false b ws = refl

  deassign_reach : (trigger gsi : ℕ) (row : Option Irqfd) (b : Board) (ws : Wishes) → (is_same Registry q || reaches (deassigned routing b.registry trigger gsi row) b ws q)
      ≡ (is_same Registry q || (table.does_release acks.of_acknowledge_each routing shape b.registry.irqfds trigger gsi row && of_fall (routing.targets gsi) q))
  deassign_reach trigger gsi None b ws = refl
  deassign_reach trigger gsi (Some row) b ws =
      twice (is_same Registry q) _
      ∙ ap (λ x. is_same Registry q || x) (release_reach gsi (was_last_resampler row (without_row b.registry.irqfds trigger gsi)) _ ws)

  -- ---- ticks

  tick_reach : (t : Bool) (after : TickState) (b : Board) (ws : Wishes) → (is_same Tick q || (is_same Tick q || reaches (tick_or_hold routing shape after t) (with_part b Tick after) ws q))
      ≡ (is_same Tick q || (t && acks.of_gsi routing shape b shape.tick q))
  tick_reach true after b ws =
      twice (is_same Tick q) _
      ∙ inject_tick_reach routing shape q (λ pic. the_reply pic) (with_part b Tick after) ws
      ∙ ap (λ x. is_same Tick q || x) (gsi_same routing shape (with_part b Tick after) b shape.tick q refl)
  tick_reach false after b ws = twice (is_same Tick q) false

  -- ---- interrupts of a processor

  -- the pair gives, or the local APIC does
  given_reach : (n : ℕ) (apic : LocalApic) (b : Board) (ws : Wishes) → (is_same (Lapic n) q || reaches (give_of_pair routing shape n apic) b ws q)
      ≡ (is_same (Lapic n) q || (is_same Pic q || (has_output (pair_of b.pic) && table.of_cycle acks.of_acknowledge_each routing shape b q)))
  given_reach n apic b ws = elim (has_output (pair_of b.pic)) as (λ t. (is_same (Lapic n) q || (is_same Pic q || reaches (if t then (cycle_made routing shape b.pic (cycle (pair_of b.pic)) (Extint (cycle (pair_of b.pic)).vector)) else give n apic) b ws q))
      ≡ (is_same (Lapic n) q || (is_same Pic q || (t && table.of_cycle acks.of_acknowledge_each routing shape b q)))) [
        | true ↦ ap (λ x. is_same (Lapic n) q || x) (answered_reach routing shape q (with_pair b.pic (cycle (pair_of b.pic)).after) (cycle_pins (cycle (pair_of b.pic)).pins) (Extint (cycle (pair_of b.pic)).vector) b ws)
        | false ↦ last_again (is_same (Lapic n) q) (is_same Pic q)
      ]

  ack_reach : (n : ℕ) (b : Board) (ws : Wishes) → reaches (plan_in_range routing shape n Call.Ack) b ws q ≡ table.of_ack acks.of_acknowledge_each routing shape b n (part_of b (Lapic n)) q
  ack_reach n b ws = by_tests (part_of b (Lapic n)).nmi (hears_pair n (part_of b (Lapic n)))
    where
      by_tests : (s t : Bool) → (is_same (Lapic n) q || reaches (if s then take_nmi n (part_of b (Lapic n)) else if t then give_of_pair routing shape n (part_of b (Lapic n)) else give n (part_of b (Lapic n))) b ws q)
          ≡ (is_same (Lapic n) q || ((not s && t) && (is_same Pic q || (has_output (pair_of b.pic) && table.of_cycle acks.of_acknowledge_each routing shape b q))))
      by_tests true t = twice (is_same (Lapic n) q) false
      by_tests false true = given_reach n (part_of b (Lapic n)) b ws
      by_tests false false = twice (is_same (Lapic n) q) false

  eoi_reach : (n : ℕ) (b : Board) (ws : Wishes) → reaches (plan_in_range routing shape n Call.Eoi) b ws q ≡ table.of_call acks.of_acknowledge_each routing shape b n Call.Eoi q
  eoi_reach n b ws =
      twice (is_same (Lapic n) q) _
      ∙ ap (λ x. is_same (Lapic n) q || x) (replied q (end_vector routing shape (greatest_vector (part_of b (Lapic n)).isr)) _ _ ws ∙ ended_reach routing shape q n (greatest_vector (part_of b (Lapic n)).isr) b ws)

  -- ---- all calls

  call_reach : (n : ℕ) (call : Call) (b : Board) (ws : Wishes) → reaches (plan_in_range routing shape n call) b ws q ≡ table.of_call acks.of_acknowledge_each routing shape b n call q
  call_reach n (Call.Line gsi line high) b ws = line_reach gsi line high n b ws
  call_reach n (Call.Msi address payload) b ws = message_reach address payload b ws
  call_reach n (Call.Write counter count) b ws = write_reach (routing.trigger counter) counter count b ws
  call_reach n (Call.Take counter) b ws = twice (is_same Counters q) false ∙ or_false _
  call_reach n (Call.Assign trigger gsi resample) b ws = assign_reach trigger gsi resample b ws
  call_reach n (Call.Deassign trigger gsi) b ws = deassign_reach trigger gsi (named_row b.registry.irqfds trigger gsi) b ws
  call_reach n (Call.Reroute rows) b ws = each_again (is_same Registry q) (is_same Pic q) (is_same Ioapic q)
  call_reach n (Call.Attach space address len counter want) b ws = within_one q (is_same Registry q) (first_of (attach_reasons b.registry (io_row space address len counter want))) (set Registry (record b.registry { ioevents = b.registry.ioevents ++ io_row space address len counter want ∷ [] }) >> reply Done) b ws refl
  call_reach n (Call.Detach space address len counter want) b ws = within_one q (is_same Registry q) (first_of (detach_reasons b.registry (io_row space address len counter want))) (set Registry (record b.registry { ioevents = without_ioevent b.registry.ioevents (io_row space address len counter want) }) >> reply Done) b ws refl
  call_reach n (Call.Watch counter gsi) b ws = within_one q (is_same Registry q) (first_of (watch_reasons b.registry counter gsi)) (set Registry (record b.registry { watches = with_watch b.registry.watches counter gsi }) >> reply Done) b ws refl
  call_reach n (Call.Unwatch counter gsi) b ws = within_one q (is_same Registry q) (first_of (unwatch_reasons b.registry counter gsi)) (set Registry (record b.registry { watches = without_watch b.registry.watches counter gsi }) >> reply Done) b ws refl
  call_reach n Call.Tick b ws = tick_reach (tick_injects b.tick) (ticked b.tick) b ws
  call_reach n (Call.TickMode reinject) b ws = or_false (is_same Tick q)
  call_reach n (Call.PortOut port len value) b ws = port_out_reach routing shape q port len value n b ws
  call_reach n (Call.PortIn port len) b ws = port_in_reach routing shape q port len n b ws
  call_reach n (Call.Store address len value) b ws = store_reach routing shape q n address len value b ws
  call_reach n (Call.Load address len) b ws = load_reach routing shape q n address len b ws
  call_reach n Call.Ack b ws = ack_reach n b ws
  call_reach n Call.Inta b ws = answered_reach routing shape q (with_pair b.pic (cycle (pair_of b.pic)).after) (cycle_pins (cycle (pair_of b.pic)).pins) (Vector (cycle (pair_of b.pic)).vector) b ws
  call_reach n Call.Eoi b ws = eoi_reach n b ws

pub reach_is_table : ReachIsTable
reach_is_table b caller call ws q =
    refused_reach q (first_of (range_reasons b.shape call)) (plan_in_range (routing_on b) b.shape (number_of caller) call) b ws
    ∙ ap (λ x. not (is_some (first_of (range_reasons b.shape call))) && x) (call_reach (routing_on b) b.shape q (number_of caller) call b ws)
