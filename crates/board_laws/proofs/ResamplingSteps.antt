-- Each acknowledge of a legal history resamples once, in order.
use Rattle.board_laws.proofs.Basics.{◌≡◌, ℕ, Bool, true, false, inl, inr, List, [], ◌∷◌, ◌++◌, Some, refl, ap, subst, ◌∙◌, Option, Event, Acked, Pin, Entry, signalled_all, has_resampler, RegistryPart, Board, Outcome, would_publish, with_counts, outcome_of, Step, OfLegalHistories, counters_told, signals_told, signals_owed, ResamplesOnce, AcknowledgesResampleOnce, EachAcknowledgeResamplesOnce}
use Rattle.board_laws.proofs.Points.{at_entries}
use Rattle.board_laws.proofs.ResamplingPlans.{AreQuiet}
use Rattle.board_laws.proofs.ResamplingAcks.{Followed, Follows, Resamples}
use Rattle.board_laws.proofs.ResamplingCalls.{call_minded}

-- ---- one step

never_quiet : (before after : List Event) (pin : Pin) (gsi : Option ℕ) → AreQuiet (before ++ Acked pin gsi ∷ after) → ⊥
never_quiet [] after pin gsi quiet = let never : false ≡ true = quiet.0 in cc
never_quiet (x ∷ before) after pin gsi quiet = never_quiet before after pin gsi quiet.1

followed_there : (r : RegistryPart) (last : Board) (before after : List Event) (pin : Pin) (gsi : Option ℕ) → Follows r last (before ++ Acked pin gsi ∷ after) → Followed r last (Acked pin gsi) after
followed_there r last [] after pin gsi follows = follows.0
followed_there r last (x ∷ before) after pin gsi follows = followed_there r last before after pin gsi follows.1

-- a call more changes no part
counted_same : (publishes : Bool) (b : Board) (e : Entry) (gsi : ℕ) (after : List Event) (c : Board) → ResamplesOnce b e c gsi after → ResamplesOnce b e (with_counts publishes c) gsi after
counted_same true b e gsi after c once = record { more = once.more; events = once.events; counts = once.counts; once = once.once; pic = once.pic; ioapic = once.ioapic }
counted_same false b e gsi after c once = record { more = once.more; events = once.events; counts = once.counts; once = once.once; pic = once.pic; ioapic = once.ioapic }

-- an acknowledge of a step resamples once
step_resamples : (b : Board) (e : Entry) (c : Board) → Step b e c → (before after : List Event) (pin : Pin) (gsi : ℕ) → e.events ≡ before ++ Acked pin (Some gsi) ∷ after → has_resampler b.registry.irqfds gsi ≡ true → ResamplesOnce b e c gsi after
step_resamples b e c step before after pin gsi told on =
    let o : Outcome (Unit {0}) = outcome_of b e step.wishes in
    let events : o.log.events ≡ before ++ Acked pin (Some gsi) ∷ after = step.told ∙ told in
    elim (call_minded b.registry b.shape e.caller e.call b step.wishes refl) [
      | inl quiet ↦ absurd (never_quiet before after pin (Some gsi) (subst (λ l. AreQuiet l) events quiet))
      | inr pays ↦
          let once : Resamples b.registry o.board gsi after = followed_there b.registry o.board before after pin (Some gsi) (subst (λ l. Follows b.registry o.board l) events pays.does.follows) on in
          subst (λ (d : Board). ResamplesOnce b e d gsi after) step.leads (counted_same (would_publish b e.call) b e gsi after o.board (record {
            more = once.more;
            events = once.events;
            counts = pays.does.counts ∙ ap (λ l. signalled_all b.counters (counters_told l)) step.told;
            once = subst (λ l. signals_told l ≡ signals_owed b.registry l) step.told pays.once;
            pic = once.pic;
            ioapic = once.ioapic;
          }))
    ]

pub resamples_once : OfLegalHistories EachAcknowledgeResamplesOnce
resamples_once = at_entries AcknowledgesResampleOnce (λ b e c step gsi after acked. step_resamples b e c step acked.before after acked.pin gsi acked.told acked.resamples)
