-- What leaves the tick state, acknowledges no pin, rings no ioeventfd, and injects on certain GSIs alone: so are signals.
use Rattle.board_laws.proofs.Basics.{Walk, Holds, of_relation, Shows, Signals, inject_holds, tells_by, tell_holds, end_level_holds, Open, open_signals, open_shows, open_raise, ◌≡◌, ℕ, Bool, true, false, List, [], ◌∷◌, refl, ◌++◌, ◌∙◌, Option, Event, Acked, Rang, Injected, Source, Targets, Tick, Pin, is_same, Sent, TargetAnswer, About, injected, resent, the_reply, events_of, Routing, next_wish, later_wishes, run, show, inject, tell_concerned, end_level, part_of-with_other}

-- ---- quiet plans

-- an event that is no acknowledge and rings nothing, and injects only on a GSI that may be
abbrev pub is_quiet : (ℕ → Bool) → Event → Bool
is_quiet may (Acked pin gsi) = false
is_quiet may (Rang counter) = false
is_quiet may (Injected gsi status) = may gsi
is_quiet may _ = true

-- a sending shows in such an event, or in the reply
abbrev pub shows_quietly : (ℕ → Bool) → About → Bool
shows_quietly may (injected gsi pic) = may gsi
shows_quietly may _ = true

-- all of them are
abbrev pub AreQuiet : (ℕ → Bool) → List Event → Type 0
AreQuiet may [] = Unit {0}
AreQuiet may (event ∷ events) = (is_quiet may event ≡ true) × AreQuiet may events

module _ (may : ℕ → Bool) where
  pub quiet_append : (xs ys : List Event) → AreQuiet may xs → AreQuiet may ys → AreQuiet may (xs ++ ys)
  quiet_append [] ys h later = later
  quiet_append (x ∷ xs) ys h later = (h.0, quiet_append xs ys h.1 later)

  -- what is told is so, and the tick state stays
  abbrev pub still : Walk
  still = of_relation (record {
    Good = λ b o. (o.board.tick ≡ b.tick) × AreQuiet may o.log.events;
    Fit = λ b. Unit {0};
    May = λ b p v. is_same p Tick ≡ false;
    starts = λ a b ws fit. (refl, tt);
    puts = λ p v b o fit other h. (h.0 ∙ part_of-with_other b p Tick v other, h.1);
    fits = λ p v b fit other. tt;
    joins = λ f b o fit h next. let k = next tt in (k.0 ∙ h.0, quiet_append o.log.events _ h.1 k.1);
  })

  pub still_open : Open still
  still_open = record { counters = λ v b fit. refl; pic = λ v b fit. refl; ioapic = λ v b fit. refl; lapic = λ n v b fit. refl }

  pub still_signals : Signals still
  still_signals = open_signals still still_open

  sent_quiet : (about : About) (sent : Sent) → shows_quietly may about ≡ true → AreQuiet may (events_of about sent)
  sent_quiet (injected gsi pic) sent h = (h, tt)
  sent_quiet (the_reply pic) sent h = tt
  sent_quiet _ sent h = (refl, tt)

  shown_quiet : (about : About) (other : Option TargetAnswer) → shows_quietly may about ≡ true → Holds still (show about other)
  shown_quiet (injected gsi pic) other h = λ b ws fit. (refl, (h, tt))
  shown_quiet (the_reply pic) other h = λ b ws fit. (refl, tt)
  shown_quiet _ other h = λ b ws fit. (refl, (refl, tt))

  pub still_shows : {cpus : ℕ} (about : About) → shows_quietly may about ≡ true → Shows still cpus about
  still_shows about there = open_shows still still_open about (λ other. shown_quiet about other there) (λ m g k h b ws fit.
      let s = g (next_wish ws) in
      let later = h s b (later_wishes ws) tt in
      (later.0, quiet_append (events_of about s) (run (k s) b (later_wishes ws)).log.events (sent_quiet about s there) later.1))

  pub inject_quiet : (cpus : ℕ) (targets : Targets) (source : Source) (about : Option TargetAnswer → About) → ((pic : Option TargetAnswer) → shows_quietly may (about pic) ≡ true) → Holds still (inject cpus targets source about)
  inject_quiet cpus targets source about there = inject_holds still cpus still_signals targets source (open_raise still still_open targets source) about (λ pic. still_shows (about pic) (there pic))

  -- ---- parts of an acknowledge

  pub tell_quiet : (routing : Routing) (gsi : Option ℕ) → Holds still (tell_concerned routing gsi)
  tell_quiet routing gsi = tell_holds still routing 0 still_signals (tells_by still (λ counter b ws fit. (refl, (refl, tt))) (λ counter b ws fit. (refl, (refl, tt))) (λ registry gsi seen b fit. refl) (λ registry gsi seen b fit. refl)) gsi

  pub level_quiet : (cpus : ℕ) (pin : Pin) → Holds still (end_level cpus pin)
  level_quiet cpus pin = end_level_holds still cpus still_signals (λ pin. still_shows (resent pin) refl) (λ pin b fit. refl) pin
