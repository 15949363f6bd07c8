-- What plans without an acknowledge leave: their events are none of an acknowledge, and Resample holds no pin more of a choice.
use Rattle.board_laws.proofs.Basics.{Walk, Holds as HoldsOf, of_relation, Shows, Signals, MayRaise, shows_by, end_level_holds, Ends, inject_tick_holds, Open, of_log, open_shows, ◌≡◌, ℕ, Bool, true, false, not, ◌&&◌, ◌||◌, List, [], ◌∷◌, ◌++◌, refl, sym, ap, ◌∙◌, Option, tied_itself, contains-insert, contains-remove, eq_by_cmp, is_eq, Event, Acked, Resampled, Watched, Source, Resample, TickSource, Targets, Shape, Hold, PinHolds as Holds, hold, hold_cmp, RegistryPart, Board, with_part, Sent, TargetAnswer, About, injected, resent, the_reply, events_of, next_wish, later_wishes, Outcome, run, routing_of_registry, show, hold_cmp_total, tied_same, contains, insert, remove}

-- ---- holds

-- one hold more, of another source, is none of Resample
pub other_held : (holds : Holds) (pin other : ℕ) (source : Source) → (source ≡ Resample → ⊥) → contains holds (hold pin Resample) ≡ false → contains (insert holds (hold other source)) (hold pin Resample) ≡ false
other_held holds pin other source differs free =
    contains-insert hold_cmp_total holds (hold other source) (hold pin Resample)
    ∙ elim (eq_by_cmp hold_cmp (hold pin Resample) (hold other source)) as (λ t. eq_by_cmp hold_cmp (hold pin Resample) (hold other source) ≡ t → (t || contains holds (hold pin Resample)) ≡ false) [
      | true ↦ λ same. absurd (differs (sym (ap (λ (h : Hold). h.source) (tied_same (hold pin Resample) (hold other source) same))))
      | false ↦ λ _. free
    ] refl

-- one hold less
pub fewer_held : (holds : Holds) (k h : Hold) → contains holds h ≡ false → contains (remove holds k) h ≡ false
fewer_held holds k h free = contains-remove hold_cmp_total holds k h ∙ ap (λ t. not (eq_by_cmp hold_cmp h k) && t) free ∙ never (not (eq_by_cmp hold_cmp h k))
  where
    never : (t : Bool) → (t && false) ≡ false
    never true = refl
    never false = refl

-- the hold that was removed
pub gone : (holds : Holds) (h : Hold) → contains (remove holds h) h ≡ false
gone holds h = contains-remove hold_cmp_total holds h h ∙ ap (λ t. not t && contains holds h) (ap is_eq (tied_itself hold_cmp_total h))

-- ---- what is left by a plan without an acknowledge

-- Resample holds none of these pins
abbrev pub Unheld : (ℕ → Type 0) → Holds → Type 0
Unheld These holds = (pin : ℕ) → These pin → contains holds (hold pin Resample) ≡ false

-- Resample holds no pin more
abbrev pub NoMore : Holds → Holds → Type 0
NoMore old new = Unheld (λ n. contains old (hold n Resample) ≡ false) new

pub no_more : (a b c : Holds) → NoMore a b → NoMore b c → NoMore a c
no_more a b c one two = λ n free. two n (one n free)

-- whether an event is none of those that an acknowledge tells of its own
abbrev pub is_quiet : Event → Bool
is_quiet (Acked pin gsi) = false
is_quiet (Resampled counter) = false
is_quiet (Watched counter) = false
is_quiet _ = true

abbrev pub AreQuiet : List Event → Type 0
AreQuiet [] = Unit {0}
AreQuiet (event ∷ events) = (is_quiet event ≡ true) × AreQuiet events

pub all_quiet : (xs ys : List Event) → AreQuiet xs → AreQuiet ys → AreQuiet (xs ++ ys)
all_quiet [] ys h k = k
all_quiet (x ∷ xs) ys h k = (h.0, all_quiet xs ys h.1 k)

quiet_sending : (about : About) (s : Sent) (events : List Event) → AreQuiet events → AreQuiet (events_of about s ++ events)
quiet_sending (the_reply pic) s events quiet = quiet
quiet_sending _ s events quiet = (refl, quiet)

-- that the events are quiet, whatever is written
abbrev pub quiet : Walk
quiet = of_log (λ l. AreQuiet l.events) tt (λ a c h k. all_quiet a.events c.events h k)

pub quiet_open : Open quiet
quiet_open = record { counters = λ v b fit. tt; pic = λ v b fit. tt; ioapic = λ v b fit. tt; lapic = λ n v b fit. tt }

quiet_shown : (about : About) (other : Option TargetAnswer) → HoldsOf quiet (show about other)
quiet_shown (the_reply pic) other = λ b ws fit. tt
quiet_shown _ other = λ b ws fit. (refl, tt)

pub quiet_shows : {cpus : ℕ} (about : About) → Shows quiet cpus about
quiet_shows about = open_shows quiet quiet_open about (quiet_shown about) (λ m g k h b ws fit. let s = g (next_wish ws) in quiet_sending about s (run (k s) b (later_wishes ws)).log.events (h s b (later_wishes ws) tt))

module _ (r : RegistryPart) where
  -- a board with this registry and the counts of another, on which Resample holds no pin more
  pub record Stays (b c : Board) : Type 0 where
    pub registry : c.registry ≡ r
    pub counters : c.counters ≡ b.counters
    pub pic : NoMore b.pic.holds c.pic.holds
    pub ioapic : NoMore b.ioapic.holds c.ioapic.holds

  -- so is one with the same of all
  pub same : {b c : Board} → c.registry ≡ b.registry → c.counters ≡ b.counters → c.pic.holds ≡ b.pic.holds → c.ioapic.holds ≡ b.ioapic.holds → b.registry ≡ r → Stays b c
  same registry counters pic ioapic fit = record {
    registry = registry ∙ fit;
    counters = counters;
    pic = λ n free. ap (λ holds. contains holds (hold n Resample)) pic ∙ free;
    ioapic = λ n free. ap (λ holds. contains holds (hold n Resample)) ioapic ∙ free;
  }

  pub then_stays : (a b c : Board) → Stays a b → Stays b c → Stays a c
  then_stays a b c one two = record {
    registry = two.registry;
    counters = two.counters ∙ one.counters;
    pic = no_more a.pic.holds b.pic.holds c.pic.holds one.pic two.pic;
    ioapic = no_more a.ioapic.holds b.ioapic.holds c.ioapic.holds one.ioapic two.ioapic;
  }

  -- an outcome leaves such a board, and tells quiet events
  pub record Leaves {A : Type 0} (b : Board) (o : Outcome A) : Type 0 where
    pub stays : Stays b o.board
    pub quiet : AreQuiet o.log.events

  abbrev pub left : Walk
  left = of_relation (record {
    Good = λ b o. Leaves b o;
    Fit = λ b. b.registry ≡ r;
    May = λ b p v. Stays b (with_part b p v);
    starts = λ a b ws fit. record { stays = same refl refl refl refl fit; quiet = tt };
    puts = λ p v b o fit may h. record { stays = then_stays b (with_part b p v) o.board may h.stays; quiet = h.quiet };
    fits = λ p v b fit may. may.registry;
    joins = λ f b o fit h next.
        let last = run (f o.value) o.board o.wishes in
        let k = next h.stays.registry in
        record { stays = then_stays b o.board last.board h.stays k.stays; quiet = all_quiet o.log.events last.log.events h.quiet k.quiet };
  })

  shown_left : (about : About) (other : Option TargetAnswer) → HoldsOf left (show about other)
  shown_left (the_reply pic) other = λ b ws fit. record { stays = same refl refl refl refl fit; quiet = tt }
  shown_left _ other = λ b ws fit. record { stays = same refl refl refl refl fit; quiet = (refl, tt) }

  pub shows_left : {cpus : ℕ} (about : About) → Shows left cpus about
  shows_left about = shows_by left (λ n apic message seen b fit. same refl refl refl refl fit) about (shown_left about) (λ m g k h b ws fit.
      let s = g (next_wish ws) in
      let l = h s b (later_wishes ws) fit in
      record { stays = l.stays; quiet = quiet_sending about s (run (k s) b (later_wishes ws)).log.events l.quiet })

  pub left_signals : Signals left
  left_signals = record {
    accepts = λ pin b fit. same refl refl refl refl fit;
    pic_leaves = λ pin source b fit. record { registry = fit; counters = refl; pic = λ n free. fewer_held b.pic.holds (hold pin source) (hold n Resample) free; ioapic = λ n free. free };
    ioapic_leaves = λ pin source b fit. record { registry = fit; counters = refl; pic = λ n free. free; ioapic = λ n free. fewer_held b.ioapic.holds (hold pin source) (hold n Resample) free };
  }

  left_raise : (targets : Targets) (source : Source) → (source ≡ Resample → ⊥) → MayRaise left targets source
  left_raise targets source differs = record {
    pic = λ pin is b fit. record { registry = fit; counters = refl; pic = λ n free. other_held b.pic.holds n pin source differs free; ioapic = λ n free. free };
    ioapic = λ pin is b fit. record { registry = fit; counters = refl; pic = λ n free. free; ioapic = λ n free. other_held b.ioapic.holds n pin source differs free };
  }

  tick_differs : TickSource ≡ Resample → ⊥
  tick_differs e = cc

  pub left_ends : (shape : Shape) → Ends left (routing_of_registry r shape.tick) shape
  left_ends shape = record {
    levels = end_level_holds left shape.cpus left_signals (λ pin. shows_left (resent pin)) (λ pin b fit. same refl refl refl refl fit);
    frees = λ b fit. same refl refl refl refl fit;
    ticks = inject_tick_holds left (routing_of_registry r shape.tick) shape left_signals (left_raise _ TickSource tick_differs) (λ status b fit. same refl refl refl refl fit) (λ pic. injected shape.tick pic) (λ pic. shows_left (injected shape.tick pic));
  }
