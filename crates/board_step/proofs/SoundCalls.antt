-- The writes of the calls that leave the registry keep a sound board's parts.
use Rattle.board_step.proofs.Walks.{Walk, Holds, Seen, Signals, MayRaise, walk, KeptBySignals, KeptByCalls, signals_kept, tick_kept, calls_kept, is_plain, plain_holds}
use Rattle.board_step.proofs.Basics.{◌≡◌, ℕ, ◌+◌, ◌-◌, ◌^◌, ◌≤◌, Bool, true, false, nat_lt, if◌then◌else◌, length, ◌∙◌, arith, length-set, ap, sym, subst, [], slice_index, IsTrue, Option, greatest_vector, Source, Resample, Line, TickSource, Targets, Shape, signalled_all, signalled, Part, Status, TickState, Call, write_to, pin_accepted, pin_acked, LocalApic, giveable_of, given, without_service, store_to, written, taken, accepted, hold, tick_acked, tick_injected, is_ignored, in_mode, has_resampler, resampled, watched, RegistryPart, Routing, routing_of_registry, ioapic_of, with_ioapic, with_pair, TargetAnswer, About, ValueOf, Board, part_of, with_part, source_of, pic_raised, ioapic_raised, pic_let_go, ioapic_let_go, inject_tick, plan_in_range, Pulse, Over, IoapicChip as Ioapic, Register, register_written, service_number, given_number, store_number, no_reason, Pin}
use Rattle.board_step.proofs.SoundCounts.{counts_signalled, counts_taken, counts_written, counts_signalled_all, NoTriggers}
use Rattle.board_step.proofs.SoundPlans.{Fine, Each, each_with}
use Rattle.board_step.proofs.SoundSends.{accepted_number, MayHold}
use Rattle.board_step.proofs.SoundRegistry.{RegistryFine, resampled_free, watched_free, no_irqfd, irqfd_resamples, may_hold}
use Rattle.board_step.proofs.SoundHolds.{hold_more, hold_less}

pub tick_injected_low : (s : TickState) (status : Status) (bound : ℕ) → s.pending ≤ bound → (tick_injected s status).pending ≤ bound
tick_injected_low s status bound low = elim s.reinjects as (λ t. (if t then record s { free = is_ignored status } else s).pending ≤ bound) [ true ↦ low | false ↦ low ]

pub tick_is_not : {A : Type 0} → TickSource ≡ Resample → A
tick_is_not e = cc

pub line_is_not : {A : Type 0} (n : ℕ) → Line n ≡ Resample → A
line_is_not n e = cc

pulse_is_not : {A : Type 0} → Pulse ≡ Resample → A
pulse_is_not e = cc

pub resamples_if : (b : Bool) → source_of b ≡ Resample → b ≡ true
resamples_if b h1 = grind arith

written_length : (io : Ioapic) (register : Register) (value : ℕ) → length (register_written io register value).after.entries ≡ length io.entries
written_length io register value = grind (arith, length-set)

module _ (r : RegistryPart) (shape : Shape) (bound : ℕ) where
  -- that each part is as a sound board with this registry has it
  abbrev pub sound : Walk
  sound = walk (Each r shape bound)

  -- a write that is fine
  fits : (p : Part) (v : ValueOf p) (b : Board) → Each r shape bound b → Fine r shape bound p v → Each r shape bound (with_part b p v)
  fits p v b each fine = each_with r shape bound b p v each fine

  pub may_raise : (targets : Targets) (source : Source) → MayHold r targets source → MayRaise sound targets source
  may_raise targets source may = record {
    pic = λ pin is b each. let there = may.pic pin is in fits Part.Pic (pic_raised b.pic pin source) b each (hold_more r b.pic.holds 16 Pin.Pic pin source (each Part.Pic) there.0 there.1);
    ioapic = λ pin is b each. let there = may.ioapic pin is in
        fits Part.Ioapic (ioapic_raised b.ioapic pin source) b each (record { entries = (each Part.Ioapic).entries; holds = hold_more r b.ioapic.holds 24 Pin.Ioapic pin source (each Part.Ioapic).holds there.0 there.1 });
  }

  pub signals_keep : KeptBySignals (Each r shape bound)
  signals_keep = record {
    accepts = λ n apic message seen b each. fits (Part.Lapic n) (accepted apic message) b each (accepted_number apic message ∙ ap (λ (a : LocalApic). a.number) seen.2 ∙ seen.1 (Part.Lapic n));
    remote_irrs = λ pin b each. fits Part.Ioapic (with_ioapic b.ioapic (pin_accepted (ioapic_of b.ioapic) pin)) b each (record { entries = length-set b.ioapic.entries pin _ ∙ (each Part.Ioapic).entries; holds = (each Part.Ioapic).holds });
    pic_leaves = λ pin source b each. fits Part.Pic (pic_let_go b.pic pin source) b each (hold_less r b.pic.holds 16 Pin.Pic (hold pin source) (each Part.Pic));
    ioapic_leaves = λ pin source b each.
        fits Part.Ioapic (ioapic_let_go b.ioapic pin source) b each (record { entries = (each Part.Ioapic).entries; holds = hold_less r b.ioapic.holds 24 Pin.Ioapic (hold pin source) (each Part.Ioapic).holds });
  }

  pub sound_signals : Signals sound
  sound_signals = signals_kept (Each r shape bound) signals_keep

  module _ (fine : RegistryFine shape r) where
    abbrev routing : Routing
    routing = routing_of_registry r shape.tick

    may : (gsi : ℕ) (source : Source) → (source ≡ Resample → IsTrue (has_resampler r.irqfds gsi)) → MayRaise sound (routing.targets gsi) source
    may gsi source resamples = may_raise (routing.targets gsi) source (may_hold r fine.sound.table gsi source resamples)

    pub sound_calls : KeptByCalls (Each r shape bound) routing shape
    sound_calls = record {
      signals = signals_keep;
      lines = λ gsi line. may gsi (Line line) (line_is_not line);
      fires = λ counter trigger is. may trigger.gsi (source_of trigger.resample) (λ e. irqfd_resamples r.irqfds counter trigger is (resamples_if trigger.resample e));
      ticks = may shape.tick TickSource tick_is_not;
      resamples = λ registry gsi seen b each. fits Part.Counters (signalled_all b.counters (resampled registry.irqfds gsi)) b each
          (counts_signalled_all r shape.counters (resampled registry.irqfds gsi) b.counters (each Part.Counters) (subst (λ (q : RegistryPart). NoTriggers r (resampled q.irqfds gsi)) (sym (is_seen registry seen)) (resampled_free shape r fine gsi)));
      notifies = λ registry gsi seen b each. fits Part.Counters (signalled_all b.counters (watched registry.watches gsi)) b each
          (counts_signalled_all r shape.counters (watched registry.watches gsi) b.counters (each Part.Counters) (subst (λ (q : RegistryPart). NoTriggers r (watched q.watches gsi)) (sym (is_seen registry seen)) (watched_free shape r fine gsi)));
      clears = λ pin b each. fits Part.Ioapic (with_ioapic b.ioapic (pin_acked (ioapic_of b.ioapic) pin)) b each (record { entries = length-set b.ioapic.entries pin _ ∙ (each Part.Ioapic).entries; holds = (each Part.Ioapic).holds });
      frees = λ b each. fits Part.Tick (tick_acked b.tick) b each (grind (arith, (each Part.Tick)));
      falls = λ status b each. fits Part.Tick (tick_injected b.tick status) b each (tick_injected_low b.tick status bound (each Part.Tick));
      pairs = λ pair b each. fits Part.Pic (with_pair b.pic pair) b each (each Part.Pic);
      stores = λ offset value b each. fits Part.Ioapic (with_ioapic b.ioapic (write_to (ioapic_of b.ioapic) offset value).after) b each (record { entries = (grind (arith, written_length)) ∙ (each Part.Ioapic).entries; holds = (each Part.Ioapic).holds });
      registers = λ n offset value b each. fits (Part.Lapic n) (store_to (part_of b (Part.Lapic n)) offset value) b each (store_number (part_of b (Part.Lapic n)) offset value ∙ each (Part.Lapic n));
      services = λ n b each. let a : LocalApic = part_of b (Part.Lapic n) in fits (Part.Lapic n) (without_service a (greatest_vector a.isr)) b each (service_number a (greatest_vector a.isr) ∙ each (Part.Lapic n));
      nmis = λ n b each. fits (Part.Lapic n) (record (part_of b (Part.Lapic n)) { nmi = false }) b each (each (Part.Lapic n));
      gives = λ n b each. let a : LocalApic = part_of b (Part.Lapic n) in fits (Part.Lapic n) (given a (giveable_of a)) b each (given_number a (giveable_of a) ∙ each (Part.Lapic n));
      rung = λ counter none b each. fits Part.Counters (signalled b.counters counter) b each (counts_signalled r shape.counters b.counters counter (each Part.Counters) (no_irqfd r.irqfds counter none));
      counts = λ counter n none b each fits_in. fits Part.Counters (written b.counters counter n) b each
          (counts_written r shape.counters b.counters counter (slice_index b.counters counter + n) (each Part.Counters) (no_irqfd r.irqfds counter none) (grind (arith, (no_reason (nat_lt (2 ^ 64 - 2) (slice_index b.counters counter + n)) Over [] fits_in).0)));
      takes = λ counter b each. fits Part.Counters (taken b.counters counter) b each (counts_taken r shape.counters b.counters counter (each Part.Counters));
      modes = λ reinject b each. fits Part.Tick (in_mode reinject) b each (omega arith);
    }
      where
        is_seen : (registry : RegistryPart) → Seen sound Part.Registry registry → registry ≡ r
        is_seen registry seen = seen.2 ∙ seen.1 Part.Registry

    pub sound_plain : (n : ℕ) (call : Call) → is_plain call ≡ true → Holds sound (plan_in_range routing shape n call)
    sound_plain = plain_holds sound routing shape (calls_kept (Each r shape bound) routing shape sound_calls)

    pub sound_tick : (about : Option TargetAnswer → About) → Holds sound (inject_tick routing shape about)
    sound_tick = tick_kept (Each r shape bound) routing shape sound_calls
