-- An irqfd that is made injects at most once, and one that is rung once.
use Rattle.board_laws.proofs.Basics.{routing_on, ◌≡◌, ℕ, Bool, true, false, ◌⊎◌, inl, inr, nat_lt, List, ◌∷◌, refl, sym, ap, subst, Some, None, Contains, Option, first_of, Call, Caller, Event, Rang, Refusal, Done, TriggerWord, taken, Board, with_part, routing_of_registry, injected, Plan, done, tell, reply, ◌>>◌, Wishes, run, inject, range_reasons, assign_reasons, unless_refused, source_of, inject_count, assigned, assign, ring_counter, slice_index, is_some, plan_on, Part, rung_on, InjectsAtMostOnce, RingsOnce, OneInjectionOfAnIrqfd, with_row}
use Rattle.board_laws.proofs.ConservingOnce.{injects_before, inject_injects}
use Rattle.board_laws.proofs.DeassignedSignals.{no_member, Refuses, call_rings, call_tells, refused_alone}

module _ (b : Board) (ws : Wishes) where
  -- ---- an irqfd is made

  abbrev Makes : ℕ → Plan (Unit {0}) → Board → Type 0
  Makes gsi m d = InjectsAtMostOnce gsi (run m d ws).log.events

  unless_makes : (gsi : ℕ) (refusal : Option Refusal) (plan : Plan (Unit {0})) → Makes gsi plan b → Makes gsi (unless_refused refusal plan) b
  unless_makes gsi None plan h = h
  unless_makes gsi (Some refusal) plan h = inl refl

  count_makes : (gsi : ℕ) (resample : Option ℕ) (injects : Bool) (d : Board) → Makes gsi (inject_count (routing_on b) b.shape gsi resample injects >> reply Done) d
  count_makes gsi resample false d = inl refl
  count_makes gsi resample true d = inr
      (injects_before gsi (λ _. reply Done) (inject_count (routing_on b) b.shape gsi resample true)
      (injects_before gsi (λ _. done tt) (inject b.shape.cpus ((routing_on b).targets gsi) (source_of (is_some resample)) (λ pic. injected gsi pic))
      (inject_injects gsi b.shape.cpus ((routing_on b).targets gsi) (source_of (is_some resample))) (λ _ b ws fit. refl)) (λ _ b ws fit. refl) d ws)

  assign_makes : (caller : Caller) (trigger gsi : ℕ) (resample : Option ℕ) → Makes gsi (plan_on b caller (Call.Assign trigger gsi resample)) b
  assign_makes caller trigger gsi resample =
      unless_makes gsi (first_of (range_reasons b.shape (Call.Assign trigger gsi resample))) (assign (routing_on b) b.shape trigger gsi resample)
      (unless_makes gsi (first_of (assign_reasons b.registry trigger resample)) (assigned (routing_on b) b.shape b.registry b.counters trigger gsi resample)
      (count_makes gsi resample (nat_lt 0 (slice_index b.counters trigger))
      (with_part (with_part b Part.Registry (record b.registry { irqfds = with_row b.registry.irqfds trigger gsi resample })) Part.Counters (taken b.counters trigger))))

  -- ---- an ioeventfd is rung

  module _ (counter : ℕ) where
    own : (trigger : Option TriggerWord) → RingsOnce counter trigger (run (tell (Rang counter) (ring_counter (routing_on b) b.shape counter trigger >> reply Done)) b ws).log.events
    own None = refl
    own (Some trigger) =
        let one = injects_before trigger.gsi (λ _. reply Done) (ring_counter (routing_on b) b.shape counter (Some trigger))
        (injects_before trigger.gsi (λ _. done tt) (inject b.shape.cpus ((routing_on b).targets trigger.gsi) (source_of trigger.resample) (λ pic. injected trigger.gsi pic))
        (inject_injects trigger.gsi b.shape.cpus ((routing_on b).targets trigger.gsi) (source_of trigger.resample)) (λ _ b ws fit. refl)) (λ _ b ws fit. refl) b ws in
        (one.0, ap (λ (l : List Event). Rang counter ∷ l) one.1)

    -- a write that rings it is refused, or tells what a ring does
    call_rung : (caller : Caller) (call : Call) → rung_on b call ≡ Some counter → Refuses b (run (plan_on b caller call) b ws) ⊎ RingsOnce counter ((routing_on b).trigger counter) (run (plan_on b caller call) b ws).log.events
    call_rung = call_rings counter b ws (λ o. RingsOnce counter ((routing_on b).trigger counter) o.log.events) (own ((routing_on b).trigger counter))

    -- an event that it rang is told by the write that rings it
    call_once : (caller : Caller) (call : Call) → Contains (run (plan_on b caller call) b ws).log.events (Rang counter) → RingsOnce counter ((routing_on b).trigger counter) (run (plan_on b caller call) b ws).log.events
    call_once caller call rang = elim (call_rung caller call (call_tells counter b ws caller call rang)) [
      | inl refused ↦ absurd (no_member (Rang counter) (subst (λ (events : List Event). Contains events (Rang counter)) refused.told rang))
      | inr once ↦ once
    ]

pub one_injection_of_an_irqfd : OneInjectionOfAnIrqfd
one_injection_of_an_irqfd b e c s = record {
  made = λ trigger gsi resample is. subst (λ (events : List Event). InjectsAtMostOnce gsi events) s.told
      (subst (λ (call : Call). InjectsAtMostOnce gsi (run (plan_on b e.caller call) b s.wishes).log.events) (sym is) (assign_makes b s.wishes e.caller trigger gsi resample));
  rung = λ counter rings. elim (call_rung b s.wishes counter e.caller e.call rings) [
    | inl refused ↦ inl (refused_alone counter b e c s rings refused)
    | inr once ↦ inr (subst (λ (events : List Event). RingsOnce counter ((routing_of_registry b.registry b.shape.tick).trigger counter) events) s.told once)
  ];
  told = λ counter rang. subst (λ (events : List Event). Contains events (Rang counter) → (rung_on b e.call ≡ Some counter) × RingsOnce counter ((routing_of_registry b.registry b.shape.tick).trigger counter) events) s.told
      (λ there. (call_tells counter b s.wishes e.caller e.call there, call_once b s.wishes counter e.caller e.call there)) rang;
}
