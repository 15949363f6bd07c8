-- What holds of the parts of calls, whatever their looks give, holds of calls.
use Rattle.board_step.proofs.Basics.{◌≡◌, ℕ, ◌+◌, ◌-◌, ◌≤◌, Bool, true, false, nat_eq, nat_lt, if◌then◌else◌, List, refl, arith, Some, None, Option, slice_index, is_some, greatest_vector, first_of, Call, Space, Line, Resample, Message, Source, Targets, Rang, Refusal, Reply, Refused, Done, Count, Empty, Removed, Value, Exit, Vector, Extint, Nmi, Ended, Nothing, Held, Part, Registry, Counters, Tick, Pic, Ioapic, Lapic, Shape, Shorthand, IoapicChip, Pair, LapicEffect, TickState, Irqfd, TriggerWord, is_port, pair_write_to, pair_read_from, has_output, cycle, write_to, resend_of, LocalApic, store_to, store_effect, giveable_of, without_service, message_in, what_is_read, taken, ticked, tick_injects, rung_by, named_row, without_row, RegistryPart, Routing, PicPart, pair_of, ioapic_of, nobody, injected, ipi, the_reply, ValueOf, is_same, Plan, done, look, put, tell, reply, ◌>>=◌, ◌>>◌, send, raise, inject, inject_tick, resend, let_go, lower, acknowledge_each, write_reasons, assign_reasons, attach_reasons, detach_reasons, watch_reasons, unwatch_reasons, is_ioapic_address, is_lapic_address, unless_refused, line_set, message_sent, source_of, trigger_written, write, read_reply, inject_count, assigned, was_last_resampler, release, deassigned, tick_or_hold, pins_with, end_vector, ended_reply, end_of_interrupt, pic_pin, cycle_pins, cycle_made, given_reply, give, hears_pair, give_of_pair, take_nmi, next_interrupt, pair_written, pair_write, pair_gave, pair_read, resend_written, ioapic_written, ioapic_store, ioapic_load, store_effects, lapic_stored, lapic_store, lapic_load, ring_counter, rung, ring, store, load, io_row, plan_in_range, sets_replied, is_refusal}

-- ---- the kinds of calls

-- the calls whose sendings show in the reply
abbrev pub replies_in : Call → Bool
replies_in (Call.Line gsi line high) = true
replies_in (Call.Msi address payload) = true
replies_in (Call.Write counter count) = true
replies_in Call.Tick = true
replies_in _ = false

-- the calls that may write the registry
abbrev pub writes_in : Call → Bool
writes_in (Call.Assign trigger gsi resample) = true
writes_in (Call.Deassign trigger gsi) = true
writes_in (Call.Reroute rows) = true
writes_in (Call.Attach space address len counter want) = true
writes_in (Call.Detach space address len counter want) = true
writes_in (Call.Watch counter gsi) = true
writes_in (Call.Unwatch counter gsi) = true
writes_in _ = false

-- the calls that may be refused for what stands on the board
abbrev pub refuses_in : Call → Bool
refuses_in (Call.Write counter count) = true
refuses_in (Call.Deassign trigger gsi) = false
refuses_in (Call.Reroute rows) = false
refuses_in call = writes_in call

-- ---- the rules of a property

-- a property of plans that tell at most so many events and answer so often: where sendings may show, whether the registry may
-- be written and a refusal answered, and a rule for each part
pub record Rules : Type 1 where
  pub At : {A : Type 0} → ℕ → ℕ → Plan A → Type 0
  pub InReply : Type 0
  pub InEvents : Type 0
  pub Writes : Type 0
  pub Refuses : Type 0
  pub ends : {A : Type 0} (i : ℕ) (a : A) → At i 0 (done a)
  pub more : {A : Type 0} (i j k : ℕ) (m : Plan A) → i ≤ j → At i k m → At j k m
  pub looks : {A : Type 0} (i k : ℕ) (p : Part) (f : ValueOf p → Plan A) → ((v : ValueOf p) → At i k (f v)) → At i k (look p f)
  pub puts : {A : Type 0} (i k : ℕ) (p : Part) (v : ValueOf p) (rest : Plan A) → is_same p Registry ≡ false → At i k rest → At i k (put p v rest)
  pub writes : {A : Type 0} (i k : ℕ) (v : RegistryPart) (rest : Plan A) → Writes → At i k rest → At i k (put Registry v rest)
  pub binds : {A B : Type 0} (i k l : ℕ) (f : A → Plan B) (m : Plan A) → At i k m → ((a : A) → At 0 l (f a)) → At i (k + l) (m >>= f)
  pub rings : (i k counter : ℕ) (m : Plan (Unit {0})) → At i k m → At (1 + i) k (tell (Rang counter) m)
  pub replies : (i : ℕ) (r : Reply) → sets_replied r ≡ nobody → is_refusal r ≡ false → At i 1 (reply r)
  pub refusals : (i : ℕ) (refusal : Refusal) → Refuses → At i 1 (reply (Refused refusal))
  pub leaves : (i : ℕ) (targets : Targets) (source : Source) → At i 0 (let_go targets source)
  pub lowers : (i : ℕ) (targets : Targets) (source : Source) → At i 1 (lower targets source)
  pub raises : InReply → (i cpus : ℕ) (targets : Targets) (source : Source) → At i 1 (raise cpus targets source (λ pic. the_reply pic))
  pub injects : InReply → (i cpus : ℕ) (targets : Targets) (source : Source) → At i 1 (inject cpus targets source (λ pic. the_reply pic))
  pub sends : InReply → (i cpus : ℕ) (message : Message) → At i 1 (send cpus message None (the_reply None))
  pub ticks : InReply → (i : ℕ) (routing : Routing) (shape : Shape) → At i 1 (inject_tick routing shape (λ pic. the_reply pic))
  pub signals : InEvents → (i cpus : ℕ) → 1 ≤ i → (targets : Targets) (source : Source) (gsi : ℕ) → At i 0 (inject cpus targets source (λ pic. injected gsi pic))
  pub ipis : InEvents → (i cpus : ℕ) → 1 ≤ i → (message : Message) (from : Option (ℕ × Shorthand)) → At i 0 (send cpus message from ipi)
  pub resends : InEvents → (i cpus : ℕ) → 1 ≤ i → (pin : ℕ) (message : Option Message) → At i 0 (resend cpus pin message)

-- what it lets a call do
pub record Allows (r : Rules) (call : Call) : Type 0 where
  pub replies : replies_in call ≡ true → r.InReply
  pub events : replies_in call ≡ false → r.InEvents
  pub writes : writes_in call ≡ true → r.Writes
  pub refuses : refuses_in call ≡ true → r.Refuses

-- the acknowledges of one call tell no more than so many events
pub record Acks (r : Rules) (routing : Routing) (shape : Shape) (most : ℕ) : Type 0 where
  pub ended : (chip : IoapicChip) (vector : ℕ) → r.At most 0 (acknowledge_each routing shape (pins_with chip vector))
  pub one : (pin : Option ℕ) → r.At most 0 (acknowledge_each routing shape (pic_pin pin))
  pub cycled : (pair : Pair) → r.At most 0 (acknowledge_each routing shape (cycle_pins (cycle pair).pins))

module _ (r : Rules) where
  either : {A : Type 0} (i k : ℕ) (t : Bool) (m n : Plan A) → r.At i k m → r.At i k n → r.At i k (if t then m else n)
  either i k true m n h g = h
  either i k false m n h g = g

  -- a part that is looked at and written
  changes : {A : Type 0} (i k : ℕ) (p : Part) (f : ValueOf p → ValueOf p) (rest : ValueOf p → Plan A) → is_same p Registry ≡ false → ((v : ValueOf p) → r.At i k (rest v)) → r.At i k (look p (λ v. put p (f v) (rest v)))
  changes i k p f rest other h = r.looks i k p (λ v. put p (f v) (rest v)) (λ v. r.puts i k p (f v) (rest v) other (h v))

  pub unless : (i : ℕ) (refusal : Option Refusal) (m : Plan (Unit {0})) → r.Refuses → r.At i 1 m → r.At i 1 (unless_refused refusal m)
  unless i None m may h = h
  unless i (Some refusal) m may h = r.refusals i refusal may

  module _ (routing : Routing) (shape : Shape) (most : ℕ) (few : 2 ≤ most) where
    answers : (s : Reply) → sets_replied s ≡ nobody → is_refusal s ≡ false → r.At most 1 (reply s)
    answers = r.replies most

    -- a plan and then a reply
    answered : (m : Plan (Unit {0})) (s : Reply) → sets_replied s ≡ nobody → is_refusal s ≡ false → r.At most 0 m → r.At most 1 (m >> reply s)
    answered m s sets accepts h = r.binds most 0 1 (λ _. reply s) m h (λ _. r.replies 0 s sets accepts)

    -- ---- calls whose sendings show in the reply

    module _ (there : r.InReply) where
      line_rules : (gsi line : ℕ) (high : Bool) → r.At most 1 (line_set routing shape gsi line high)
      line_rules gsi line true = r.binds most 1 0 (λ _. done tt) (raise shape.cpus (routing.targets gsi) (Line line) (λ pic. the_reply pic)) (r.raises there most shape.cpus (routing.targets gsi) (Line line)) (λ _. r.ends 0 tt)
      line_rules gsi line false = r.lowers most (routing.targets gsi) (Line line)

      message_rules : (address payload : ℕ) → r.At most 1 (message_sent shape address payload)
      message_rules address payload = r.binds most 1 0 (λ _. done tt) (send shape.cpus (message_in address payload) None (the_reply None)) (r.sends there most shape.cpus (message_in address payload)) (λ _. r.ends 0 tt)

      pub triggered : (trigger : TriggerWord) (counter n : ℕ) → r.At most 1 (write routing shape (Some trigger) counter n)
      triggered trigger counter n = either most 1 (nat_eq n 0) (reply Done) (trigger_written routing shape trigger) (answers Done refl refl)
          (r.binds most 1 0 (λ _. done tt) (inject shape.cpus (routing.targets trigger.gsi) (source_of trigger.resample) (λ pic. the_reply pic)) (r.injects there most shape.cpus (routing.targets trigger.gsi) (source_of trigger.resample)) (λ _. r.ends 0 tt))

      write_rules : r.Refuses → (trigger : Option TriggerWord) (counter n : ℕ) → r.At most 1 (write routing shape trigger counter n)
      write_rules may None counter n = r.looks most 1 Counters _ (λ counts. unless most (first_of (write_reasons counts counter n)) _ may (r.puts most 1 Counters _ _ refl (answers Done refl refl)))
      write_rules may (Some trigger) counter n = triggered trigger counter n

      fall_rules : (held : TickState) (injects : Bool) → r.At most 1 (tick_or_hold routing shape held injects)
      fall_rules held true = r.ticks there most routing shape
      fall_rules held false = answers (Held held.pending) refl refl

    -- ---- calls without a sending

    read_rules : (count : Option ℕ) → r.At most 1 (reply (read_reply count))
    read_rules None = answers Empty refl refl
    read_rules (Some count) = answers (Count count) refl refl

    release_rules : (gsi : ℕ) (last : Bool) → r.At most 0 (release routing gsi last)
    release_rules gsi true = r.leaves most (routing.targets gsi) Resample
    release_rules gsi false = r.ends most tt

    deassigned_rules : r.Writes → (registry : RegistryPart) (trigger gsi : ℕ) (row : Option Irqfd) → r.At most 1 (deassigned routing registry trigger gsi row)
    deassigned_rules may registry trigger gsi None = answers (Removed 0) refl refl
    deassigned_rules may registry trigger gsi (Some row) =
        let last = was_last_resampler row (without_row registry.irqfds trigger gsi) in
        r.writes most 1 _ _ may (answered (release routing gsi last) (Removed 1) refl refl (release_rules gsi last))

    load_rules : (n address len : ℕ) → r.At most 1 (load n address len)
    load_rules n address len =
        let own = lapic_load n (address - 0xfee00000) len in
        either most 1 (is_ioapic_address address) (ioapic_load (address - 0xfec00000) len) (if is_lapic_address address then own else reply Exit) (r.looks most 1 Ioapic _ (λ part. answers (Value _) refl refl))
        (either most 1 (is_lapic_address address) own (reply Exit) (r.looks most 1 (Lapic n) _ (λ apic. answers (Value _) refl refl)) (answers Exit refl refl))

    -- ---- calls whose sendings show in events

    module _ (there : r.InEvents) where
      injected_rules : (i : ℕ) → 1 ≤ i → (gsi : ℕ) (source : Source) → r.At i 0 (inject shape.cpus (routing.targets gsi) source (λ pic. injected gsi pic) >> done (tt {0}))
      injected_rules i one gsi source = r.binds i 0 0 (λ _. done tt) (inject shape.cpus (routing.targets gsi) source (λ pic. injected gsi pic)) (r.signals there i shape.cpus one (routing.targets gsi) source gsi) (λ _. r.ends 0 tt)

      count_rules : (gsi : ℕ) (resample : Option ℕ) (injects : Bool) → r.At most 0 (inject_count routing shape gsi resample injects)
      count_rules gsi resample false = r.ends most tt
      count_rules gsi resample true = injected_rules most (omega (arith, few)) gsi (source_of (is_some resample))

      pub assigned_rules : r.Writes → (registry : RegistryPart) (counts : List ℕ) (trigger gsi : ℕ) (resample : Option ℕ) → r.At most 1 (assigned routing shape registry counts trigger gsi resample)
      assigned_rules may registry counts trigger gsi resample =
          let stands = nat_lt 0 (slice_index counts trigger) in
          r.writes most 1 _ _ may (r.puts most 1 Counters _ _ refl (answered (inject_count routing shape gsi resample stands) Done refl refl (count_rules gsi resample stands)))

      module _ (a : Acks r routing shape most) where
        vector_rules : (vector : Option ℕ) → r.At most 0 (end_vector routing shape vector)
        vector_rules None = r.ends most tt
        vector_rules (Some vector) = r.looks most 0 Ioapic _ (λ part. a.ended (ioapic_of part) vector)

        ended_rules : (vector : Option ℕ) → r.At 0 1 (reply (ended_reply vector))
        ended_rules None = r.replies 0 Nothing refl refl
        ended_rules (Some vector) = r.replies 0 (Ended vector) refl refl

        eoi_rules : (n : ℕ) → r.At most 1 (end_of_interrupt routing shape n)
        eoi_rules n = changes most 1 (Lapic n) (λ apic. without_service apic (greatest_vector apic.isr)) (λ apic. end_vector routing shape (greatest_vector apic.isr) >> reply (ended_reply (greatest_vector apic.isr))) refl
            (λ apic. r.binds most 0 1 (λ _. reply (ended_reply (greatest_vector apic.isr))) (end_vector routing shape (greatest_vector apic.isr)) (vector_rules (greatest_vector apic.isr)) (λ _. ended_rules (greatest_vector apic.isr)))

        cycle_rules : (pic : PicPart) (s : Reply) → sets_replied s ≡ nobody → is_refusal s ≡ false → r.At most 1 (cycle_made routing shape pic (cycle (pair_of pic)) s)
        cycle_rules pic s sets accepts = r.puts most 1 Pic _ _ refl (answered (acknowledge_each routing shape (cycle_pins (cycle (pair_of pic)).pins)) s sets accepts (a.cycled (pair_of pic)))

        given_rules : (vector : Option ℕ) → r.At most 1 (reply (given_reply vector))
        given_rules None = answers Nothing refl refl
        given_rules (Some vector) = answers (Vector vector) refl refl

        give_rules : (n : ℕ) (apic : LocalApic) → r.At most 1 (give n apic)
        give_rules n apic = r.puts most 1 (Lapic n) _ _ refl (given_rules (giveable_of apic))

        next_rules : (n : ℕ) → r.At most 1 (next_interrupt routing shape n)
        next_rules n = r.looks most 1 (Lapic n) _ (λ apic. either most 1 apic.nmi (take_nmi n apic) (if hears_pair n apic then give_of_pair routing shape n apic else give n apic) (r.puts most 1 (Lapic n) _ _ refl (answers Nmi refl refl))
            (either most 1 (hears_pair n apic) (give_of_pair routing shape n apic) (give n apic)
            (r.looks most 1 Pic _ (λ pic. either most 1 (has_output (pair_of pic)) (cycle_made routing shape pic (cycle (pair_of pic)) (Extint (cycle (pair_of pic)).vector)) (give n apic) (cycle_rules pic (Extint (cycle (pair_of pic)).vector) refl refl) (give_rules n apic)))
            (give_rules n apic)))

        -- ---- accesses

        pair_write_rules : (port len value : ℕ) → r.At most 1 (pair_write routing shape port len value)
        pair_write_rules port len value = r.looks most 1 Pic _ (λ pic.
            let effect = pair_write_to (pair_of pic) port value in
            answered (if nat_eq len 1 then pair_written routing shape pic effect else done tt) Done refl refl
            (either most 0 (nat_eq len 1) (pair_written routing shape pic effect) (done tt) (r.puts most 0 Pic _ _ refl (a.one effect.pin)) (r.ends most tt)))

        pair_read_rules : (port len : ℕ) → r.At most 1 (pair_read routing shape port len)
        pair_read_rules port len = r.looks most 1 Pic _ (λ pic.
            let read = pair_read_from (pair_of pic) port in
            either most 1 (nat_eq len 1) (pair_gave routing shape pic read) (reply (Value 0)) (r.puts most 1 Pic _ _ refl (answered (acknowledge_each routing shape (pic_pin read.pin)) (Value read.value) refl refl (a.one read.pin))) (answers (Value 0) refl refl))

        resend_written_rules : (pin : Option ℕ) → r.At most 0 (resend_written shape pin)
        resend_written_rules None = r.ends most tt
        resend_written_rules (Some pin) = r.looks most 0 Ioapic _ (λ part. r.resends there most shape.cpus (omega (arith, few)) pin (resend_of (ioapic_of part) pin))

        ioapic_store_rules : (offset len value : ℕ) → r.At most 1 (ioapic_store shape offset len value)
        ioapic_store_rules offset len value = r.looks most 1 Ioapic _ (λ part.
            let made = write_to (ioapic_of part) offset value in
            answered (if nat_eq len 4 then ioapic_written shape part made else done tt) Done refl refl
            (either most 0 (nat_eq len 4) (ioapic_written shape part made) (done tt) (r.puts most 0 Ioapic _ _ refl (resend_written_rules made.pin)) (r.ends most tt)))

        effects_rules : (n : ℕ) (effect : LapicEffect) → r.At most 0 (store_effects routing shape n effect)
        effects_rules n LapicEffect.Plain = r.ends most tt
        effects_rules n (LapicEffect.Ended vector) = vector_rules vector
        effects_rules n (LapicEffect.Send message) =
            r.binds most 0 0 (λ _. done tt) (send shape.cpus message.message (Some (n, message.to)) ipi) (r.ipis there most shape.cpus (omega (arith, few)) message.message (Some (n, message.to))) (λ _. r.ends 0 tt)

        lapic_store_rules : (n offset len value : ℕ) → r.At most 1 (lapic_store routing shape n offset len value)
        lapic_store_rules n offset len value = r.looks most 1 (Lapic n) _ (λ apic.
            let stored = lapic_stored routing shape n (store_to apic offset value) (store_effect apic offset value) in
            answered (if nat_eq len 4 then stored else done tt) Done refl refl
            (either most 0 (nat_eq len 4) stored (done tt) (r.puts most 0 (Lapic n) _ _ refl (effects_rules n (store_effect apic offset value))) (r.ends most tt)))

        ring_counter_rules : (counter : ℕ) (trigger : Option TriggerWord) → r.At 1 0 (ring_counter routing shape counter trigger)
        ring_counter_rules counter None = r.looks 1 0 Counters _ (λ counts. r.puts 1 0 Counters _ _ refl (r.ends 1 tt))
        ring_counter_rules counter (Some trigger) = injected_rules 1 (omega arith) trigger.gsi (source_of trigger.resample)

        rung_rules : (counter : Option ℕ) → r.At most 1 (rung routing shape counter)
        rung_rules None = answers Exit refl refl
        rung_rules (Some counter) =
            let m = ring_counter routing shape counter (routing.trigger counter) in
            r.more (1 + 1) most 1 _ few (r.rings 1 1 counter (m >> reply Done) (r.binds 1 0 1 (λ _. reply Done) m (ring_counter_rules counter (routing.trigger counter)) (λ _. r.replies 0 Done refl refl)))

        ring_rules : (space : Space) (address len value : ℕ) → r.At most 1 (ring routing shape space address len value)
        ring_rules space address len value = r.looks most 1 Registry _ (λ registry. rung_rules (rung_by registry.ioevents space address len value))

        store_rules : (n address len value : ℕ) → r.At most 1 (store routing shape n address len value)
        store_rules n address len value =
            let own = lapic_store routing shape n (address - 0xfee00000) len value in
            let other = ring routing shape Space.Memory address len value in
            either most 1 (is_ioapic_address address) (ioapic_store shape (address - 0xfec00000) len value) (if is_lapic_address address then own else other) (ioapic_store_rules (address - 0xfec00000) len value)
            (either most 1 (is_lapic_address address) own other (lapic_store_rules n (address - 0xfee00000) len value) (ring_rules Space.Memory address len value))

    -- ---- each call

    registers : (v : RegistryPart) (refusal : Option Refusal) → r.Refuses → r.Writes → r.At most 1 (unless_refused refusal (put Registry v (reply Done)))
    registers v refusal refuses may = unless most refusal (put Registry v (reply Done)) refuses (r.writes most 1 v (reply Done) may (answers Done refl refl))

    -- a call, where one that leaves the registry may acknowledge
    pub in_range : (n : ℕ) (call : Call) → Allows r call → (writes_in call ≡ false → r.InEvents → Acks r routing shape most) → r.At most 1 (plan_in_range routing shape n call)
    in_range n (Call.Line gsi line high) may acks = line_rules (may.replies refl) gsi line high
    in_range n (Call.Msi address payload) may acks = message_rules (may.replies refl) address payload
    in_range n (Call.Write counter count) may acks = write_rules (may.replies refl) (may.refuses refl) (routing.trigger counter) counter count
    in_range n (Call.Take counter) may acks = changes most 1 Counters (λ counts. taken counts counter) _ refl (λ counts. read_rules (what_is_read (slice_index counts counter)))
    in_range n (Call.Assign trigger gsi resample) may acks = r.looks most 1 Registry _ (λ registry. r.looks most 1 Counters _ (λ counts.
        unless most (first_of (assign_reasons registry trigger resample)) _ (may.refuses refl) (assigned_rules (may.events refl) (may.writes refl) registry counts trigger gsi resample)))
    in_range n (Call.Deassign trigger gsi) may acks = r.looks most 1 Registry _ (λ registry. deassigned_rules (may.writes refl) registry trigger gsi (named_row registry.irqfds trigger gsi))
    in_range n (Call.Reroute rows) may acks = r.looks most 1 Registry _ (λ registry. r.writes most 1 _ _ (may.writes refl) (changes most 1 Pic _ _ refl (λ pic. changes most 1 Ioapic _ _ refl (λ ioapic. answers Done refl refl))))
    in_range n (Call.Attach space address len counter want) may acks = r.looks most 1 Registry _ (λ registry. registers _ (first_of (attach_reasons registry (io_row space address len counter want))) (may.refuses refl) (may.writes refl))
    in_range n (Call.Detach space address len counter want) may acks = r.looks most 1 Registry _ (λ registry. registers _ (first_of (detach_reasons registry (io_row space address len counter want))) (may.refuses refl) (may.writes refl))
    in_range n (Call.Watch counter gsi) may acks = r.looks most 1 Registry _ (λ registry. registers _ (first_of (watch_reasons registry counter gsi)) (may.refuses refl) (may.writes refl))
    in_range n (Call.Unwatch counter gsi) may acks = r.looks most 1 Registry _ (λ registry. registers _ (first_of (unwatch_reasons registry counter gsi)) (may.refuses refl) (may.writes refl))
    in_range n Call.Tick may acks = changes most 1 Tick ticked _ refl (λ before. fall_rules (may.replies refl) (ticked before) (tick_injects before))
    in_range n (Call.TickMode reinject) may acks = r.puts most 1 Tick _ _ refl (answers Done refl refl)
    in_range n (Call.PortOut port len value) may acks = either most 1 (is_port port) (pair_write routing shape port len value) (ring routing shape Space.Port port len value) (pair_write_rules (may.events refl) (acks refl (may.events refl)) port len value) (ring_rules (may.events refl) (acks refl (may.events refl)) Space.Port port len value)
    in_range n (Call.PortIn port len) may acks = either most 1 (is_port port) (pair_read routing shape port len) (reply Exit) (pair_read_rules (may.events refl) (acks refl (may.events refl)) port len) (answers Exit refl refl)
    in_range n (Call.Store address len value) may acks = store_rules (may.events refl) (acks refl (may.events refl)) n address len value
    in_range n (Call.Load address len) may acks = load_rules n address len
    in_range n Call.Ack may acks = next_rules (may.events refl) (acks refl (may.events refl)) n
    in_range n Call.Inta may acks = r.looks most 1 Pic _ (λ pic. cycle_rules (may.events refl) (acks refl (may.events refl)) pic (Vector (cycle (pair_of pic)).vector) refl refl)
    in_range n Call.Eoi may acks = eoi_rules (may.events refl) (acks refl (may.events refl)) n
