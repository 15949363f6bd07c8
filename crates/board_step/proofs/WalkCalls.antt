-- Calls: what holds of their parts holds of them.
use Rattle.board_step.proofs.Basics.{not, ◌≡◌, ℕ, ◌-◌, Bool, true, false, nat_eq, nat_lt, if◌then◌else◌, List, ◌++◌, ◌∷◌, [], Some, None, refl, Option, greatest_vector, Reason, first_of, Call, Space, Rang, Pin, Row, Line, Resample, Message, Refusal, Shorthand, Reply, Signal, Done, Count, Empty, Removed, Value, Exit, Vector, Extint, Nmi, Ended, Nothing, Held, Refused, Registry, Counters, Tick, Pic, Ioapic, Lapic, Shape, Irqfd, IoRow, Pair, LapicEffect, signalled, TickState, TriggerWord, is_port, pair_write_to, pair_read_from, has_output, cycle, write_to, resend_of, store_to, store_effect, giveable_of, given, without_service, message_in, what_is_read, taken, written as count_of, rung_by, in_mode, table_of, Holds as PinHolds, Board, part_of, with_part, RegistryPart, Routing, PicPart, IoapicPart, pair_of, ioapic_of, with_pair, with_ioapic, TargetAnswer, injected, ipi, the_reply, Plan, done, put, say, change, reply, ◌>>◌, Wishes, send, raise, lowered_status, inject_tick, resend, acknowledge_each, write_reasons, assign_reasons, attach_reasons, detach_reasons, watch_reasons, unwatch_reasons, is_ioapic_address, is_lapic_address, unless_refused, line_set, message_sent, source_of, trigger_written, write, read_reply, take, inject_count, assign, was_last_resampler, release, deassigned, deassign, kept_holds, reroute, attach, detach, watch, unwatch, tick_or_hold, pins_with, end_vector, ended_reply, end_of_interrupt, pic_pin, cycle_pins, cycle_made, inta, given_reply, give, hears_pair, give_of_pair, take_nmi, next_interrupt, pair_written, pair_write, pair_gave, pair_read, resend_written, ioapic_written, ioapic_store, ioapic_load, store_effects, lapic_stored, lapic_store, lapic_load, ring_counter, rung, ring, port_out, port_in, store, load, plan_in_range, slice_index, is_some, read_from, load_of, count_written, tick_mode, named_row, with_row, without_row, without_ioevent, with_watch, without_watch}
use Rattle.board_step.proofs.CallRules.{writes_in}
use Rattle.board_step.proofs.Walk.{Walk, Holds, ended, bound, after, either, either_at, looked, written, changed}
use Rattle.board_step.proofs.WalkSignals.{Shows, Signals, MayRaise, let_go_holds, lower_holds, raise_holds, inject_only}

-- whether a reply is a status
abbrev pub is_signal : Reply → Bool
is_signal (Signal status) = true
is_signal _ = false

-- the calls that leave the registry, but for a tick that falls
abbrev pub is_plain : Call → Bool
is_plain Call.Tick = false
is_plain call = not (writes_in call)

module _ (w : Walk) (routing : Routing) (shape : Shape) where
  -- ---- processors and accesses

  -- what accesses of chips and ends of interrupts need
  pub record Accesses : Type 0 where
    pub acks : (list : List Pin) → Holds w (acknowledge_each routing shape list)
    pub replies : (r : Reply) → is_signal r ≡ false → Holds w (reply r)
    pub resends : (pin : ℕ) (message : Option Message) → Holds w (resend shape.cpus pin message)
    pub ipis : (message : Message) (from : Option (ℕ × Shorthand)) → Holds w (send shape.cpus message from ipi)
    pub pairs : (pair : Pair) (b : Board) → w.Fit b → w.May b Pic (with_pair b.pic pair)
    pub stores : (offset value : ℕ) (b : Board) → w.Fit b → w.May b Ioapic (with_ioapic b.ioapic (write_to (ioapic_of b.ioapic) offset value).after)
    pub registers : (n offset value : ℕ) (b : Board) → w.Fit b → w.May b (Lapic n) (store_to (part_of b (Lapic n)) offset value)
    pub services : (n : ℕ) (b : Board) → w.Fit b → w.May b (Lapic n) (without_service (part_of b (Lapic n)) (greatest_vector (part_of b (Lapic n)).isr))

  module _ (a : Accesses) where
    answers_at : (r : Reply) → is_signal r ≡ false → (u : Unit {0}) (c : Board) (vs : Wishes) → w.Fit c → w.At (reply r) c vs
    answers_at r plain u c vs fit = a.replies r plain c vs fit

    acked : (list : List Pin) (r : Reply) → is_signal r ≡ false → Holds w (acknowledge_each routing shape list >> reply r)
    acked list r plain = after w (acknowledge_each routing shape list) (reply r) (a.acks list) (a.replies r plain)

    vector_holds : (vector : Option ℕ) → Holds w (end_vector routing shape vector)
    vector_holds None = ended w tt
    vector_holds (Some vector) = looked w Ioapic (λ part. acknowledge_each routing shape (pins_with (ioapic_of part) vector)) (λ part _. a.acks (pins_with (ioapic_of part) vector))

    pub eoi_holds : (n : ℕ) → Holds w (end_of_interrupt routing shape n)
    eoi_holds n =
        written w (Lapic n) (λ apic. without_service apic (greatest_vector apic.isr)) (λ apic. end_vector routing shape (greatest_vector apic.isr) >> reply (ended_reply (greatest_vector apic.isr))) (a.services n)
        (λ apic. after w (end_vector routing shape (greatest_vector apic.isr)) (reply (ended_reply (greatest_vector apic.isr))) (vector_holds (greatest_vector apic.isr)) (of_vector (greatest_vector apic.isr)))
      where
        of_vector : (vector : Option ℕ) → Holds w (reply (ended_reply vector))
        of_vector None = a.replies Nothing refl
        of_vector (Some vector) = a.replies (Ended vector) refl

    pub cycle_at : (answer : Reply) → is_signal answer ≡ false → (b : Board) (ws : Wishes) → w.Fit b → w.At (cycle_made routing shape b.pic (cycle (pair_of b.pic)) answer) b ws
    cycle_at answer plain b ws fit =
        let made = cycle (pair_of b.pic) in
        w.puts Pic (with_pair b.pic made.after) (acknowledge_each routing shape (cycle_pins made.pins) >> reply answer) b ws fit (a.pairs made.after b fit) (acked (cycle_pins made.pins) answer plain (with_part b Pic (with_pair b.pic made.after)) ws)

    pub inta_holds : Holds w (inta routing shape)
    inta_holds = λ b ws fit. w.looks Pic (λ pic. cycle_made routing shape pic (cycle (pair_of pic)) (Vector (cycle (pair_of pic)).vector)) b ws (cycle_at (Vector (cycle (pair_of b.pic)).vector) refl b ws fit)

    -- what is given, where the local APIC may be written so
    module _ (nmis : (n : ℕ) (b : Board) → w.Fit b → w.May b (Lapic n) (record (part_of b (Lapic n)) { nmi = false })) (gives : (n : ℕ) (b : Board) → w.Fit b → w.May b (Lapic n) (given (part_of b (Lapic n)) (giveable_of (part_of b (Lapic n))))) where
      give_at : (n : ℕ) (b : Board) (ws : Wishes) → w.Fit b → w.At (give n (part_of b (Lapic n))) b ws
      give_at n b ws fit =
          let apic = part_of b (Lapic n) in
          w.puts (Lapic n) (given apic (giveable_of apic)) (reply (given_reply (giveable_of apic))) b ws fit (gives n b fit) (of_given (giveable_of apic) (with_part b (Lapic n) (given apic (giveable_of apic))) ws)
        where
          of_given : (vector : Option ℕ) → Holds w (reply (given_reply vector))
          of_given None = a.replies Nothing refl
          of_given (Some vector) = a.replies (Vector vector) refl

      pub next_holds : (n : ℕ) → Holds w (next_interrupt routing shape n)
      next_holds n = λ b ws fit.
          let apic = part_of b (Lapic n) in
          w.looks (Lapic n) (λ apic. if apic.nmi then take_nmi n apic else if hears_pair n apic then give_of_pair routing shape n apic else give n apic) b ws
          (either_at w apic.nmi (take_nmi n apic) (if hears_pair n apic then give_of_pair routing shape n apic else give n apic) b ws
          (w.puts (Lapic n) (record apic { nmi = false }) (reply Nmi) b ws fit (nmis n b fit) (a.replies Nmi refl (with_part b (Lapic n) (record apic { nmi = false })) ws))
          (either_at w (hears_pair n apic) (give_of_pair routing shape n apic) (give n apic) b ws
          (w.looks Pic (λ pic. if has_output (pair_of pic) then cycle_made routing shape pic (cycle (pair_of pic)) (Extint (cycle (pair_of pic)).vector) else give n apic) b ws
          (either_at w (has_output (pair_of b.pic)) (cycle_made routing shape b.pic (cycle (pair_of b.pic)) (Extint (cycle (pair_of b.pic)).vector)) (give n apic) b ws
          (cycle_at (Extint (cycle (pair_of b.pic)).vector) refl b ws fit) (give_at n b ws fit)))
          (give_at n b ws fit)))

    pub pair_write_holds : (port len value : ℕ) → Holds w (pair_write routing shape port len value)
    pair_write_holds port len value = λ b ws fit.
        let effect = pair_write_to (pair_of b.pic) port value in
        w.looks Pic (λ pic. (if nat_eq len 1 then pair_written routing shape pic (pair_write_to (pair_of pic) port value) else done tt) >> reply Done) b ws
        (w.binds (λ _. reply Done) (if nat_eq len 1 then pair_written routing shape b.pic effect else done tt) b ws fit
        (either_at w (nat_eq len 1) (pair_written routing shape b.pic effect) (done tt) b ws
        (w.puts Pic (with_pair b.pic effect.after) (acknowledge_each routing shape (pic_pin effect.pin)) b ws fit (a.pairs effect.after b fit) (a.acks (pic_pin effect.pin) (with_part b Pic (with_pair b.pic effect.after)) ws))
        (w.ends tt b ws fit))
        (answers_at Done refl))

    pub pair_read_holds : (port len : ℕ) → Holds w (pair_read routing shape port len)
    pair_read_holds port len = λ b ws fit.
        let read = pair_read_from (pair_of b.pic) port in
        w.looks Pic (λ pic. if nat_eq len 1 then pair_gave routing shape pic (pair_read_from (pair_of pic) port) else reply (Value 0)) b ws
        (either_at w (nat_eq len 1) (pair_gave routing shape b.pic read) (reply (Value 0)) b ws
        (w.puts Pic (with_pair b.pic read.after) (acknowledge_each routing shape (pic_pin read.pin) >> reply (Value read.value)) b ws fit (a.pairs read.after b fit) (acked (pic_pin read.pin) (Value read.value) refl (with_part b Pic (with_pair b.pic read.after)) ws))
        (a.replies (Value 0) refl b ws fit))

    pub resend_written_holds : (pin : Option ℕ) → Holds w (resend_written shape pin)
    resend_written_holds None = ended w tt
    resend_written_holds (Some pin) = looked w Ioapic (λ part. resend shape.cpus pin (resend_of (ioapic_of part) pin)) (λ part _. a.resends pin (resend_of (ioapic_of part) pin))

    pub ioapic_store_holds : (offset len value : ℕ) → Holds w (ioapic_store shape offset len value)
    ioapic_store_holds offset len value = λ b ws fit.
        let made = write_to (ioapic_of b.ioapic) offset value in
        w.looks Ioapic (λ part. (if nat_eq len 4 then ioapic_written shape part (write_to (ioapic_of part) offset value) else done tt) >> reply Done) b ws
        (w.binds (λ _. reply Done) (if nat_eq len 4 then ioapic_written shape b.ioapic made else done tt) b ws fit
        (either_at w (nat_eq len 4) (ioapic_written shape b.ioapic made) (done tt) b ws
        (w.puts Ioapic (with_ioapic b.ioapic made.after) (resend_written shape made.pin) b ws fit (a.stores offset value b fit) (resend_written_holds made.pin (with_part b Ioapic (with_ioapic b.ioapic made.after)) ws))
        (w.ends tt b ws fit))
        (answers_at Done refl))

    effects_hold : (n : ℕ) (effect : LapicEffect) → Holds w (store_effects routing shape n effect)
    effects_hold n LapicEffect.Plain = ended w tt
    effects_hold n (LapicEffect.Ended vector) = vector_holds vector
    effects_hold n (LapicEffect.Send message) = bound w (λ answer. done tt) (send shape.cpus message.message (Some (n, message.to)) ipi) (a.ipis message.message (Some (n, message.to))) (λ _. ended w tt)

    pub lapic_store_holds : (n offset len value : ℕ) → Holds w (lapic_store routing shape n offset len value)
    lapic_store_holds n offset len value = λ b ws fit.
        let apic = part_of b (Lapic n) in
        w.looks (Lapic n) (λ apic. (if nat_eq len 4 then lapic_stored routing shape n (store_to apic offset value) (store_effect apic offset value) else done tt) >> reply Done) b ws
        (w.binds (λ _. reply Done) (if nat_eq len 4 then lapic_stored routing shape n (store_to apic offset value) (store_effect apic offset value) else done tt) b ws fit
        (either_at w (nat_eq len 4) (lapic_stored routing shape n (store_to apic offset value) (store_effect apic offset value)) (done tt) b ws
        (w.puts (Lapic n) (store_to apic offset value) (store_effects routing shape n (store_effect apic offset value)) b ws fit (a.registers n offset value b fit)
        (effects_hold n (store_effect apic offset value) (with_part b (Lapic n) (store_to apic offset value)) ws))
        (w.ends tt b ws fit))
        (answers_at Done refl))

    -- a guest write, whatever it rings
    module _ (rings : (counter : Option ℕ) → Holds w (rung routing shape counter)) where
      pub ring_holds : (space : Space) (address len value : ℕ) → Holds w (ring routing shape space address len value)
      ring_holds space address len value = looked w Registry (λ registry. rung routing shape (rung_by registry.ioevents space address len value)) (λ registry _. rings (rung_by registry.ioevents space address len value))

      pub port_out_holds : (port len value : ℕ) → Holds w (port_out routing shape port len value)
      port_out_holds port len value = either w (is_port port) (pair_write routing shape port len value) (ring routing shape Space.Port port len value) (pair_write_holds port len value) (ring_holds Space.Port port len value)

      pub store_holds : (n address len value : ℕ) → Holds w (store routing shape n address len value)
      store_holds n address len value =
          let own = lapic_store routing shape n (address - 0xfee00000) len value in
          let other = ring routing shape Space.Memory address len value in
          either w (is_ioapic_address address) (ioapic_store shape (address - 0xfec00000) len value) (if is_lapic_address address then own else other) (ioapic_store_holds (address - 0xfec00000) len value)
          (either w (is_lapic_address address) own other (lapic_store_holds n (address - 0xfee00000) len value) (ring_holds Space.Memory address len value))

    pub port_in_holds : (port len : ℕ) → Holds w (port_in routing shape port len)
    port_in_holds port len = either w (is_port port) (pair_read routing shape port len) (reply Exit) (pair_read_holds port len) (a.replies Exit refl)

    pub load_holds : (n address len : ℕ) → Holds w (load n address len)
    load_holds n address len =
        let own = lapic_load n (address - 0xfee00000) len in
        either w (is_ioapic_address address) (ioapic_load (address - 0xfec00000) len) (if is_lapic_address address then own else reply Exit)
        (looked w Ioapic (λ part. reply (Value (if nat_eq len 4 then read_from (ioapic_of part) (address - 0xfec00000) else 0))) (λ part _. a.replies (Value _) refl))
        (either w (is_lapic_address address) own (reply Exit)
        (looked w (Lapic n) (λ apic. reply (Value (if nat_eq len 4 then load_of apic (address - 0xfee00000) else 0))) (λ apic _. a.replies (Value _) refl)) (a.replies Exit refl))

  -- ---- counters that are rung

  -- what a ring needs
  pub record Rings : Type 0 where
    pub rang : (counter : ℕ) → Holds w (say (Rang counter))
    pub signals : (counter : ℕ) → routing.trigger counter ≡ None → (b : Board) → w.Fit b → w.May b Counters (signalled b.counters counter)
    pub fires : (counter : ℕ) (trigger : TriggerWord) → routing.trigger counter ≡ Some trigger → MayRaise w (routing.targets trigger.gsi) (source_of trigger.resample)
    pub injects : (gsi : ℕ) (pic : Option TargetAnswer) → Shows w shape.cpus (injected gsi pic)

  module _ (signals : Signals w) (r : Rings) where
    ring_counter_holds : (counter : ℕ) (trigger : Option TriggerWord) → routing.trigger counter ≡ trigger → Holds w (ring_counter routing shape counter trigger)
    ring_counter_holds counter None is = changed w Counters (λ counts. signalled counts counter) (r.signals counter is)
    ring_counter_holds counter (Some trigger) is = inject_only w shape.cpus signals (routing.targets trigger.gsi) (source_of trigger.resample) (r.fires counter trigger is) (λ pic. injected trigger.gsi pic) (r.injects trigger.gsi)

    pub rung_holds : ((r : Reply) → is_signal r ≡ false → Holds w (reply r)) → (counter : Option ℕ) → Holds w (rung routing shape counter)
    rung_holds replies None = replies Exit refl
    rung_holds replies (Some counter) =
        let m = ring_counter routing shape counter (routing.trigger counter) in
        after w (say (Rang counter)) (m >> reply Done) (r.rang counter) (after w m (reply Done) (ring_counter_holds counter (routing.trigger counter) refl) (replies Done refl))

  -- a count that stands at a trigger
  pub inject_count_holds : Signals w → (gsi : ℕ) (resample : Option ℕ) → MayRaise w (routing.targets gsi) (source_of (is_some resample)) → ((pic : Option TargetAnswer) → Shows w shape.cpus (injected gsi pic)) → (injects : Bool) → Holds w (inject_count routing shape gsi resample injects)
  inject_count_holds signals gsi resample may there false = ended w tt
  inject_count_holds signals gsi resample may there true = inject_only w shape.cpus signals (routing.targets gsi) (source_of (is_some resample)) may (λ pic. injected gsi pic) there

  -- ---- a call that may be refused

  pub unless_holds : ((r : Reply) → is_signal r ≡ false → Holds w (reply r)) → (refusal : Option Refusal) (m : Plan (Unit {0})) → Holds w m → Holds w (unless_refused refusal m)
  unless_holds replies None m h = h
  unless_holds replies (Some refusal) m h = replies (Refused refusal) refl

  -- where nothing refuses it, that may be used
  unless_at : ((r : Reply) → is_signal r ≡ false → Holds w (reply r)) → (refusal : Option Refusal) (m : Plan (Unit {0})) (b : Board) (ws : Wishes) → w.Fit b → (refusal ≡ None → w.At m b ws) → w.At (unless_refused refusal m) b ws
  unless_at replies None m b ws fit h = h refl
  unless_at replies (Some refusal) m b ws fit h = replies (Refused refusal) refl b ws fit

  -- a count that is written, unless it would be past the greatest
  pub count_holds : ((r : Reply) → is_signal r ≡ false → Holds w (reply r)) → (counter n : ℕ) → ((b : Board) → w.Fit b → first_of (write_reasons b.counters counter n) ≡ None → w.May b Counters (count_of b.counters counter n)) → Holds w (count_written counter n)
  count_holds plain counter n may = λ b ws fit.
      w.looks Counters (λ counts. unless_refused (first_of (write_reasons counts counter n)) (put Counters (count_of counts counter n) (reply Done))) b ws
      (unless_at plain (first_of (write_reasons b.counters counter n)) (put Counters (count_of b.counters counter n) (reply Done)) b ws fit
      (λ none. w.puts Counters (count_of b.counters counter n) (reply Done) b ws fit (may b fit none) (plain Done refl (with_part b Counters (count_of b.counters counter n)) ws)))

  -- ---- calls whose sendings show in the reply

  -- what they need
  pub record Replied : Type 0 where
    pub signals : Signals w
    pub plain : (r : Reply) → is_signal r ≡ false → Holds w (reply r)
    pub lowers : (gsi : ℕ) → Holds w (reply (Signal (lowered_status (routing.targets gsi).pic (routing.targets gsi).ioapic (routing.targets gsi).msi)))
    pub shows : (pic : Option TargetAnswer) → Shows w shape.cpus (the_reply pic)
    pub lines : (gsi line : ℕ) → MayRaise w (routing.targets gsi) (Line line)
    pub fires : (counter : ℕ) (trigger : TriggerWord) → routing.trigger counter ≡ Some trigger → MayRaise w (routing.targets trigger.gsi) (source_of trigger.resample)
    pub counts : (counter n : ℕ) → routing.trigger counter ≡ None → (b : Board) → w.Fit b → first_of (write_reasons b.counters counter n) ≡ None → w.May b Counters (count_of b.counters counter n)

  module _ (a : Replied) where
    pub line_holds : (gsi line : ℕ) (high : Bool) → Holds w (line_set routing shape gsi line high)
    line_holds gsi line true = bound w (λ status. done tt) (raise shape.cpus (routing.targets gsi) (Line line) (λ pic. the_reply pic))
        (raise_holds w shape.cpus a.signals (routing.targets gsi) (Line line) (a.lines gsi line) (λ pic. the_reply pic) a.shows) (λ _. ended w tt)
    line_holds gsi line false = lower_holds w shape.cpus a.signals (routing.targets gsi) (Line line) (a.lowers gsi)

    pub message_holds : (address payload : ℕ) → Holds w (message_sent shape address payload)
    message_holds address payload = bound w (λ answer. done tt) (send shape.cpus (message_in address payload) None (the_reply None)) ((a.shows None).sends (message_in address payload) None) (λ _. ended w tt)

    pub write_holds : (counter n : ℕ) (trigger : Option TriggerWord) → routing.trigger counter ≡ trigger → Holds w (write routing shape trigger counter n)
    write_holds counter n None is = count_holds a.plain counter n (a.counts counter n is)
    write_holds counter n (Some trigger) is = either w (nat_eq n 0) (reply Done) (trigger_written routing shape trigger) (a.plain Done refl)
        (inject_only w shape.cpus a.signals (routing.targets trigger.gsi) (source_of trigger.resample) (a.fires counter trigger is) (λ pic. the_reply pic) a.shows)

  module _ (plain : (r : Reply) → is_signal r ≡ false → Holds w (reply r)) where
    pub take_holds : (counter : ℕ) → ((b : Board) → w.Fit b → w.May b Counters (taken b.counters counter)) → Holds w (take counter)
    take_holds counter may = written w Counters (λ counts. taken counts counter) (λ counts. reply (read_reply (what_is_read (slice_index counts counter)))) may (λ counts. of_read (what_is_read (slice_index counts counter)))
      where
        of_read : (count : Option ℕ) → Holds w (reply (read_reply count))
        of_read None = plain Empty refl
        of_read (Some count) = plain (Count count) refl

    pub tick_or_hold_holds : Holds w (inject_tick routing shape (λ pic. the_reply pic)) → (held : TickState) (t : Bool) → Holds w (tick_or_hold routing shape held t)
    tick_or_hold_holds injects held true = injects
    tick_or_hold_holds injects held false = plain (Held held.pending) refl

    pub tick_mode_holds : (reinject : Bool) → ((b : Board) → w.Fit b → w.May b Tick (in_mode reinject)) → Holds w (tick_mode reinject)
    tick_mode_holds reinject may = λ b ws fit. w.puts Tick (in_mode reinject) (reply Done) b ws fit (may b fit) (plain Done refl (with_part b Tick (in_mode reinject)) ws)

    -- ---- calls that write the registry

    module _ (may : (r : RegistryPart) (b : Board) → w.Fit b → w.May b Registry r) where
      -- a write of the registry, unless a reason holds
      registered : (v : RegistryPart) (reasons : List Reason) → Holds w (unless_refused (first_of reasons) (put Registry v (reply Done)))
      registered v reasons = unless_holds plain (first_of reasons) (put Registry v (reply Done)) (λ b ws fit. w.puts Registry v (reply Done) b ws fit (may v b fit) (plain Done refl (with_part b Registry v) ws))

      pub attach_holds : (row : IoRow) → Holds w (attach row)
      attach_holds row = looked w Registry _ (λ r _. registered (record r { ioevents = r.ioevents ++ row ∷ [] }) (attach_reasons r row))

      pub detach_holds : (row : IoRow) → Holds w (detach row)
      detach_holds row = looked w Registry _ (λ r _. registered (record r { ioevents = without_ioevent r.ioevents row }) (detach_reasons r row))

      pub watch_holds : (counter gsi : ℕ) → Holds w (watch counter gsi)
      watch_holds counter gsi = looked w Registry _ (λ r _. registered (record r { watches = with_watch r.watches counter gsi }) (watch_reasons r counter gsi))

      pub unwatch_holds : (counter gsi : ℕ) → Holds w (unwatch counter gsi)
      unwatch_holds counter gsi = looked w Registry _ (λ r _. registered (record r { watches = without_watch r.watches counter gsi }) (unwatch_reasons r counter gsi))

      pub assign_holds : (trigger gsi : ℕ) (resample : Option ℕ) → ((counts : List ℕ) (b : Board) → w.Fit b → w.May b Counters (taken counts trigger)) → ((injects : Bool) → Holds w (inject_count routing shape gsi resample injects))
          → Holds w (assign routing shape trigger gsi resample)
      assign_holds trigger gsi resample takes counts_inject = looked w Registry _ (λ r _. looked w Counters _ (λ counts _.
          let v = record r { irqfds = with_row r.irqfds trigger gsi resample } in
          let injects = nat_lt 0 (slice_index counts trigger) in
          let last = inject_count routing shape gsi resample injects >> reply Done in
          unless_holds plain (first_of (assign_reasons r trigger resample)) (put Registry v (put Counters (taken counts trigger) last)) (λ b ws fit.
          w.puts Registry v (put Counters (taken counts trigger) last) b ws fit (may v b fit) (λ fits.
          w.puts Counters (taken counts trigger) last (with_part b Registry v) ws fits (takes counts (with_part b Registry v) fits)
          (after w (inject_count routing shape gsi resample injects) (reply Done) (counts_inject injects) (plain Done refl) (with_part (with_part b Registry v) Counters (taken counts trigger)) ws)))))

      release_holds : Signals w → (gsi : ℕ) (last : Bool) → Holds w (release routing gsi last)
      release_holds signals gsi true = let_go_holds w shape.cpus signals (routing.targets gsi) Resample
      release_holds signals gsi false = ended w tt

      pub deassign_holds : Signals w → (trigger gsi : ℕ) → Holds w (deassign routing trigger gsi)
      deassign_holds signals trigger gsi = looked w Registry _ (λ r _. of_row r (named_row r.irqfds trigger gsi))
        where
          of_row : (r : RegistryPart) (row : Option Irqfd) → Holds w (deassigned routing r trigger gsi row)
          of_row r None = plain (Removed 0) refl
          of_row r (Some row) =
              let v = record r { irqfds = without_row r.irqfds trigger gsi } in
              let m = release routing gsi (was_last_resampler row (without_row r.irqfds trigger gsi)) in
              λ b ws fit. w.puts Registry v (m >> reply (Removed 1)) b ws fit (may v b fit)
              (after w m (reply (Removed 1)) (release_holds signals gsi (was_last_resampler row (without_row r.irqfds trigger gsi))) (plain (Removed 1) refl) (with_part b Registry v) ws)

      pub reroute_holds : ((holds : PinHolds) (b : Board) → w.Fit b → w.May b Pic (record b.pic { holds = holds })) → ((holds : PinHolds) (b : Board) → w.Fit b → w.May b Ioapic (record b.ioapic { holds = holds })) → (rows : List Row) → Holds w (reroute rows)
      reroute_holds pic ioapic rows = looked w Registry _ (λ r _.
          let v = record r { table = table_of rows } in
          let pics = change Pic (λ (part : PicPart). record part { holds = kept_holds r.table (table_of rows) Pin.Pic part.holds }) in
          let ioapics = change Ioapic (λ (part : IoapicPart). record part { holds = kept_holds r.table (table_of rows) Pin.Ioapic part.holds }) in
          λ b ws fit. w.puts Registry v (pics >> (ioapics >> reply Done)) b ws fit (may v b fit)
          (after w pics (ioapics >> reply Done) (changed w Pic (λ (part : PicPart). record part { holds = kept_holds r.table (table_of rows) Pin.Pic part.holds }) (λ b fit. pic (kept_holds r.table (table_of rows) Pin.Pic b.pic.holds) b fit))
          (after w ioapics (reply Done) (changed w Ioapic (λ (part : IoapicPart). record part { holds = kept_holds r.table (table_of rows) Pin.Ioapic part.holds }) (λ b fit. ioapic (kept_holds r.table (table_of rows) Pin.Ioapic b.ioapic.holds) b fit))
          (plain Done refl)) (with_part b Registry v) ws))

  -- ---- the calls that leave the registry, but for a tick that falls

  -- what they need
  pub record Plain : Type 0 where
    pub accesses : Accesses
    pub rings : Rings
    pub replied : Replied
    pub nmis : (n : ℕ) (b : Board) → w.Fit b → w.May b (Lapic n) (record (part_of b (Lapic n)) { nmi = false })
    pub gives : (n : ℕ) (b : Board) → w.Fit b → w.May b (Lapic n) (given (part_of b (Lapic n)) (giveable_of (part_of b (Lapic n))))
    pub takes : (counter : ℕ) (b : Board) → w.Fit b → w.May b Counters (taken b.counters counter)
    pub modes : (reinject : Bool) (b : Board) → w.Fit b → w.May b Tick (in_mode reinject)

  module _ (a : Plain) where
    rings_hold : (counter : Option ℕ) → Holds w (rung routing shape counter)
    rings_hold = rung_holds a.replied.signals a.rings a.accesses.replies

    pub plain_holds : (n : ℕ) (call : Call) → is_plain call ≡ true → Holds w (plan_in_range routing shape n call)
    plain_holds n (Call.Line gsi line high) is = line_holds a.replied gsi line high
    plain_holds n (Call.Msi address payload) is = message_holds a.replied address payload
    plain_holds n (Call.Write counter count) is = write_holds a.replied counter count (routing.trigger counter) refl
    plain_holds n (Call.Take counter) is = take_holds a.accesses.replies counter (a.takes counter)
    plain_holds n (Call.TickMode reinject) is = tick_mode_holds a.accesses.replies reinject (a.modes reinject)
    plain_holds n (Call.PortOut port len value) is = port_out_holds a.accesses rings_hold port len value
    plain_holds n (Call.PortIn port len) is = port_in_holds a.accesses port len
    plain_holds n (Call.Store address len value) is = store_holds a.accesses rings_hold n address len value
    plain_holds n (Call.Load address len) is = load_holds a.accesses n address len
    plain_holds n Call.Ack is = next_holds a.accesses a.nmis a.gives n
    plain_holds n Call.Inta is = inta_holds a.accesses
    plain_holds n Call.Eoi is = eoi_holds a.accesses n
    plain_holds n _ is = cc
