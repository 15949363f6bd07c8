-- What holds of a board before a call holds after it, where each write keeps it.
use Rattle.board_step.proofs.Basics.{◌≡◌, ℕ, Bool, false, Some, None, Option, greatest_vector, signalled, signalled_all, first_of, Message, Source, Line, TickSource, Registry, Counters, Tick, Pic, Ioapic, Lapic, Shape, Status, Pair, TriggerWord, pin_accepted, pin_acked, write_to, LocalApic, accepted, store_to, giveable_of, given, without_service, taken, written as count_of, resampled, watched, in_mode, tick_acked, tick_injected, Board, part_of, with_part, ioapic_of, with_pair, with_ioapic, RegistryPart, Routing, TargetAnswer, About, injected, resent, ipi, the_reply, next_wish, later_wishes, show, pic_let_go, ioapic_let_go, inject_tick, write_reasons, source_of}
use Rattle.board_step.proofs.Walk.{Walk, Holds, Seen, kept_by}
use Rattle.board_step.proofs.WalkSignals.{Shows, Signals, MayRaise, shows_by}
use Rattle.board_step.proofs.WalkAcks.{tells_by, Ends, resend_holds, end_level_holds, acks_hold, inject_tick_holds}
use Rattle.board_step.proofs.WalkCalls.{Plain}

module _ (P : Board → Type 0) where
  abbrev pub walk : Walk
  walk = kept_by P

  -- the writes of signals keep it
  pub record KeptBySignals : Type 0 where
    pub accepts : (n : ℕ) (apic : LocalApic) (message : Message) → Seen walk (Lapic n) apic → (b : Board) → P b → P (with_part b (Lapic n) (accepted apic message))
    pub remote_irrs : (pin : ℕ) (b : Board) → P b → P (with_part b Ioapic (with_ioapic b.ioapic (pin_accepted (ioapic_of b.ioapic) pin)))
    pub pic_leaves : (pin : ℕ) (source : Source) (b : Board) → P b → P (with_part b Pic (pic_let_go b.pic pin source))
    pub ioapic_leaves : (pin : ℕ) (source : Source) (b : Board) → P b → P (with_part b Ioapic (ioapic_let_go b.ioapic pin source))

  module _ (k : KeptBySignals) where
    pub signals_kept : Signals walk
    signals_kept = record { accepts = k.remote_irrs; pic_leaves = k.pic_leaves; ioapic_leaves = k.ioapic_leaves }

    -- what shows changes no board
    pub shows : {cpus : ℕ} (about : About) → Shows walk cpus about
    shows about = shows_by walk k.accepts about (of_about about) (λ m g next h b ws fit. h (g (next_wish ws)) b (later_wishes ws) fit)
      where
        of_about : (about : About) (other : Option TargetAnswer) → Holds walk (show about other)
        of_about (the_reply pic) other = λ b ws fit. fit
        of_about _ other = λ b ws fit. fit

  module _ (routing : Routing) (shape : Shape) where
    -- the writes of calls keep it
    pub record KeptByCalls : Type 0 where
      pub signals : KeptBySignals
      pub lines : (gsi line : ℕ) → MayRaise walk (routing.targets gsi) (Line line)
      pub fires : (counter : ℕ) (trigger : TriggerWord) → routing.trigger counter ≡ Some trigger → MayRaise walk (routing.targets trigger.gsi) (source_of trigger.resample)
      pub ticks : MayRaise walk (routing.targets shape.tick) TickSource
      pub resamples : (registry : RegistryPart) (gsi : ℕ) → Seen walk Registry registry → (b : Board) → P b → P (with_part b Counters (signalled_all b.counters (resampled registry.irqfds gsi)))
      pub notifies : (registry : RegistryPart) (gsi : ℕ) → Seen walk Registry registry → (b : Board) → P b → P (with_part b Counters (signalled_all b.counters (watched registry.watches gsi)))
      pub clears : (pin : ℕ) (b : Board) → P b → P (with_part b Ioapic (with_ioapic b.ioapic (pin_acked (ioapic_of b.ioapic) pin)))
      pub frees : (b : Board) → P b → P (with_part b Tick (tick_acked b.tick))
      pub falls : (status : Status) (b : Board) → P b → P (with_part b Tick (tick_injected b.tick status))
      pub pairs : (pair : Pair) (b : Board) → P b → P (with_part b Pic (with_pair b.pic pair))
      pub stores : (offset value : ℕ) (b : Board) → P b → P (with_part b Ioapic (with_ioapic b.ioapic (write_to (ioapic_of b.ioapic) offset value).after))
      pub registers : (n offset value : ℕ) (b : Board) → P b → P (with_part b (Lapic n) (store_to (part_of b (Lapic n)) offset value))
      pub services : (n : ℕ) (b : Board) → P b → P (with_part b (Lapic n) (without_service (part_of b (Lapic n)) (greatest_vector (part_of b (Lapic n)).isr)))
      pub nmis : (n : ℕ) (b : Board) → P b → P (with_part b (Lapic n) (record (part_of b (Lapic n)) { nmi = false }))
      pub gives : (n : ℕ) (b : Board) → P b → P (with_part b (Lapic n) (given (part_of b (Lapic n)) (giveable_of (part_of b (Lapic n)))))
      pub rung : (counter : ℕ) → routing.trigger counter ≡ None → (b : Board) → P b → P (with_part b Counters (signalled b.counters counter))
      pub counts : (counter n : ℕ) → routing.trigger counter ≡ None → (b : Board) → P b → first_of (write_reasons b.counters counter n) ≡ None → P (with_part b Counters (count_of b.counters counter n))
      pub takes : (counter : ℕ) (b : Board) → P b → P (with_part b Counters (taken b.counters counter))
      pub modes : (reinject : Bool) (b : Board) → P b → P (with_part b Tick (in_mode reinject))

    module _ (k : KeptByCalls) where
      abbrev signals : Signals walk
      signals = signals_kept k.signals

      pub tick_kept : (about : Option TargetAnswer → About) → Holds walk (inject_tick routing shape about)
      tick_kept about = inject_tick_holds walk routing shape signals k.ticks k.falls about (λ pic. shows k.signals (about pic))

      ends : Ends walk routing shape
      ends = record { levels = end_level_holds walk shape.cpus signals (λ pin. shows k.signals (resent pin)) k.clears; frees = k.frees; ticks = tick_kept (λ pic. injected shape.tick pic) }

      pub calls_kept : Plain walk routing shape
      calls_kept = record {
        accesses = record {
          acks = acks_hold walk routing shape (λ pin b ws fit. fit) signals (tells_by walk (λ counter b ws fit. fit) (λ counter b ws fit. fit) k.resamples k.notifies) ends;
          replies = λ r plain b ws fit. fit;
          resends = λ pin message. resend_holds walk shape.cpus signals pin (shows k.signals (resent pin)) message;
          ipis = (shows k.signals ipi).sends;
          pairs = k.pairs;
          stores = k.stores;
          registers = k.registers;
          services = k.services;
        };
        rings = record { rang = λ counter b ws fit. fit; signals = k.rung; fires = k.fires; injects = λ gsi pic. shows k.signals (injected gsi pic) };
        replied = record { signals = signals; plain = λ r plain b ws fit. fit; lowers = λ gsi b ws fit. fit; shows = λ pic. shows k.signals (the_reply pic); lines = k.lines; fires = k.fires; counts = k.counts };
        nmis = k.nmis;
        gives = k.gives;
        takes = k.takes;
        modes = k.modes;
      }
