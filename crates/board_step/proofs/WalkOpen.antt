-- Properties to which it does not matter what is written to a chip or a counter.
use Rattle.board_step.proofs.Basics.{◌≡◌, ℕ, false, List, Option, Rang, Pin, Source, Targets, Reply, Signal, Counters, Pic, Ioapic, Lapic, Shape, LocalApic, Board, PicPart, IoapicPart, Routing, TargetAnswer, About, injected, resent, ipi, the_reply, reply, say, Log, show, lowered_status, acknowledge_each, silence, both}
use Rattle.board_step.proofs.Walk.{Walk, Holds, of_relation}
use Rattle.board_step.proofs.WalkSignals.{Shows, Signals, Chooses, MayRaise, shows_by}
use Rattle.board_step.proofs.WalkAcks.{resend_holds}
use Rattle.board_step.proofs.WalkCalls.{is_signal, Accesses, Rings, Replied}

-- what shows along a plan, whatever the board
abbrev pub of_log : (Good : Log → Type 0) → Good silence → ((a c : Log) → Good a → Good c → Good (both a c)) → Walk
of_log Good none joins = of_relation (record {
  Good = λ b o. Good o.log;
  Fit = λ b. Unit {0};
  May = λ b p v. Unit {0};
  starts = λ a b ws fit. none;
  puts = λ p v b o fit may h. h;
  fits = λ p v b fit may. tt;
  joins = λ f b o fit h next. joins o.log _ h (next tt);
})

module _ (w : Walk) where
  -- chips and counters may be written
  pub record Open : Type 0 where
    pub counters : (v : List ℕ) (b : Board) → w.Fit b → w.May b Counters v
    pub pic : (v : PicPart) (b : Board) → w.Fit b → w.May b Pic v
    pub ioapic : (v : IoapicPart) (b : Board) → w.Fit b → w.May b Ioapic v
    pub lapic : (n : ℕ) (v : LocalApic) (b : Board) → w.Fit b → w.May b (Lapic n) v

  module _ (o : Open) where
    pub open_signals : Signals w
    open_signals = record { accepts = λ pin b fit. o.ioapic _ b fit; pic_leaves = λ pin source b fit. o.pic _ b fit; ioapic_leaves = λ pin source b fit. o.ioapic _ b fit }

    pub open_shows : {cpus : ℕ} (about : About) → ((other : Option TargetAnswer) → Holds w (show about other)) → Chooses w about → Shows w cpus about
    open_shows = shows_by w (λ n apic message seen b fit. o.lapic n _ b fit)

    pub open_raise : (targets : Targets) (source : Source) → MayRaise w targets source
    open_raise targets source = record { pic = λ pin is b fit. o.pic _ b fit; ioapic = λ pin is b fit. o.ioapic _ b fit }

    module _ (routing : Routing) (shape : Shape) (replies : (r : Reply) → is_signal r ≡ false → Holds w (reply r)) where
      pub open_accesses : ((list : List Pin) → Holds w (acknowledge_each routing shape list)) → ((pin : ℕ) → Shows w shape.cpus (resent pin)) → Shows w shape.cpus ipi → Accesses w routing shape
      open_accesses acks resends ipis = record {
        acks = acks;
        replies = replies;
        resends = λ pin message. resend_holds w shape.cpus open_signals pin (resends pin) message;
        ipis = ipis.sends;
        pairs = λ pair b fit. o.pic _ b fit;
        stores = λ offset value b fit. o.ioapic _ b fit;
        registers = λ n offset value b fit. o.lapic n _ b fit;
        services = λ n b fit. o.lapic n _ b fit;
      }

      pub open_rings : ((counter : ℕ) → Holds w (say (Rang counter))) → ((gsi : ℕ) (pic : Option TargetAnswer) → Shows w shape.cpus (injected gsi pic)) → Rings w routing shape
      open_rings rang injects = record { rang = rang; signals = λ counter none b fit. o.counters _ b fit; fires = λ counter trigger is. open_raise _ _; injects = injects }

      pub open_replied : ((gsi : ℕ) → Holds w (reply (Signal (lowered_status (routing.targets gsi).pic (routing.targets gsi).ioapic (routing.targets gsi).msi)))) → ((pic : Option TargetAnswer) → Shows w shape.cpus (the_reply pic)) → Replied w routing shape
      open_replied lowers shows = record {
        signals = open_signals;
        plain = replies;
        lowers = lowers;
        shows = shows;
        lines = λ gsi line. open_raise _ _;
        fires = λ counter trigger is. open_raise _ _;
        counts = λ counter n none b fit kept. o.counters _ b fit;
      }
