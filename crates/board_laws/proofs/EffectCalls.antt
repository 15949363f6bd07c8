-- A call that is answered with a status says what its status tells, and one without effect leaves the requests.
use Rattle.board_laws.proofs.Basics.{routing_on, Holds, ended, after, changed, Signals, accept_pin_holds, let_go_holds, ◌≡◌, ℕ, Bool, true, false, nat_eq, if◌then◌else◌, ◌⊎◌, inl, inr, List, [], ◌∷◌, option_map, refl, sym, ap, ◌∙◌, subst, true≢false, Some, None, Option, first_of, Call, Caller, MsiWord, Source, Line, Resample, Targets, Refusal, Reply, Signal, Done, Lapic, Masked, Status, Raise, TickState, TriggerWord, raise_of, pin_outcome, message_in, ticked, tick_injects, tick_injected, Board, part_of, PicPart, IoapicPart, pair_of, ioapic_of, nobody, TargetAnswer, stood_already, no_effect, status_of, About, the_reply, done, change, reply, ◌>>◌, Wishes, Outcome, run, send, pic_raised, pic_answer, ioapic_raised, is_accepted, accept_pin, ioapic_answered, raise_other, raise, let_go, let_go_after, lowered_status, lower, inject, HasProcessors, range_reasons, unless_refused, source_of, trigger_written, write, tick_or_hold, number_of, plan_in_range, TickSource as Tick, Lowered, plan_on, outcome_of, with_counts, would_publish, Part, message_target, signal_targets, message_raised, pic_answer_on, raise_answer_on, IsSaidOf, is_without_effect, ChangesNoRequest, CoalescedAndIgnoredChangeNoRequest}
use Rattle.board_laws.proofs.EffectStood.{raise_stood, raised_stood}
use Rattle.board_laws.proofs.EffectMute.{count_mute, call_mute, some_status}
use Rattle.board_laws.proofs.EffectSends.{spared, Says, says_before, says_after, shown_says, send_says}

-- ---- plans that leave the requests

module _ (b : Board) where
  signals : Signals (spared b)
  signals = record { accepts = λ pin c fit. tt; pic_leaves = λ pin source c fit. tt; ioapic_leaves = λ pin source c fit. tt }

  let_go_after_spares : (targets : Targets) (source : Source) → Holds (spared b) (let_go_after targets source)
  let_go_after_spares targets Resample = λ c ws fit. (refl, λ same. same)
  let_go_after_spares targets other = let_go_holds (spared b) 0 signals targets other

-- ---- signals whose status is the reply

abbrev shown : Option TargetAnswer → About
shown pic = the_reply pic

module _ (b : Board) (stand : HasProcessors b b.shape.cpus) where
  -- the other target, on a board whose tick and pair may be others
  module _ (u : TickState) (v : PicPart) (source : Source) (pic : Option ℕ) where
    abbrev at : Option ℕ → Option MsiWord → Targets
    at ioapic msi = record { pic = pic; ioapic = ioapic; msi = msi }

    abbrev c : Board
    c = record b { tick = u; pic = v }

    answered_says : (pin : ℕ) (msi : Option MsiWord) (w : IoapicPart) (raised : Raise) → raise_of (ioapic_of b.ioapic) pin ≡ raised → (ws : Wishes)
        → Says b (at (Some pin) msi) (run (ioapic_answered b.shape.cpus pin (shown (pic_answer_on b pic)) raised) (record c { ioapic = w }) ws)
    answered_says pin msi w Raise.Masked is ws =
        shown_says b stand (at (Some pin) msi) u v w (Some (no_effect Masked)) (Some (no_effect Masked)) ws (sym (ap (λ r. Some (raise_answer_on b b.shape.cpus r)) is))
    answered_says pin msi w Raise.Stood is ws =
        let found = raised_stood b.ioapic pin (ap raise_stood is) in
        shown_says b stand (at (Some pin) msi) u v w (Some stood_already) (Some stood_already) ws (inl (record { pin = pin; there = refl; unmasked = found.0; stood = found.1 }))
    answered_says pin msi w (Raise.Send message) is ws =
        says_before b (at (Some pin) msi) (λ answer. accept_pin pin (is_accepted message answer) >> done (Some answer)) (send b.shape.cpus message None (shown (pic_answer_on b pic))) (record c { ioapic = w }) ws
        (send_says b stand (at (Some pin) msi) u v w message (ap message_raised is) (ap (λ r. Some (raise_answer_on b b.shape.cpus r)) is) ws)
        (λ answer. after (spared b) (accept_pin pin (is_accepted message answer)) (done (Some answer)) (accept_pin_holds (spared b) 0 (signals b) pin (is_accepted message answer)) (ended (spared b) (Some answer)))

    other_says : (ioapic : Option ℕ) (msi : Option MsiWord) (ws : Wishes) → Says b (at ioapic msi) (run (raise_other b.shape.cpus ioapic msi source (shown (pic_answer_on b pic))) c ws)
    other_says (Some pin) msi ws = answered_says pin msi (ioapic_raised b.ioapic pin source) (raise_of (ioapic_of b.ioapic) pin) refl ws
    other_says None (Some word) ws =
        says_before b (at None (Some word)) (λ answer. done (Some answer)) (send b.shape.cpus (message_in word.address word.payload) None (shown (pic_answer_on b pic))) c ws
        (send_says b stand (at None (Some word)) u v b.ioapic (message_in word.address word.payload) refl refl ws)
        (λ _ c vs fit. (refl, λ same. same))
    other_says None None ws = shown_says b stand (at None None) u v b.ioapic None None ws refl

  -- a signal, on a board whose tick may be another
  module _ (u : TickState) (source : Source) (ws : Wishes) where
    raised_says : (pic ioapic : Option ℕ) (msi : Option MsiWord) → Says b (record { pic = pic; ioapic = ioapic; msi = msi }) (run (raise b.shape.cpus (record { pic = pic; ioapic = ioapic; msi = msi }) source shown) (record b { tick = u }) ws)
    raised_says None ioapic msi =
        says_before b (record { pic = None; ioapic = ioapic; msi = msi }) (λ other. done (status_of None other nobody)) (raise_other b.shape.cpus ioapic msi source (shown None)) (record b { tick = u }) ws
        (other_says u b.pic source None ioapic msi ws) (λ _ c vs fit. (refl, λ same. same))
    raised_says (Some pin) ioapic msi =
        let answer = Some (pic_answer (pin_outcome (pair_of b.pic) pin true)) in
        says_before b (record { pic = Some pin; ioapic = ioapic; msi = msi }) (λ other. done (status_of answer other nobody)) (raise_other b.shape.cpus ioapic msi source (shown answer)) (record b { tick = u; pic = pic_raised b.pic pin source }) ws
        (other_says u (pic_raised b.pic pin source) source (Some pin) ioapic msi ws) (λ _ c vs fit. (refl, λ same. same))

    raise_says : (targets : Targets) → Says b targets (run (raise b.shape.cpus targets source shown) (record b { tick = u }) ws)
    raise_says targets = raised_says targets.pic targets.ioapic targets.msi

    inject_says : (targets : Targets) → Says b targets (run (inject b.shape.cpus targets source shown) (record b { tick = u }) ws)
    inject_says targets =
        says_before b targets (λ status. let_go_after targets source >> done status) (raise b.shape.cpus targets source shown) (record b { tick = u }) ws (raise_says targets)
        (λ status. after (spared b) (let_go_after targets source) (done status) (let_go_after_spares b targets source) (ended (spared b) status))

  -- a signal that is lowered
  lowered_says : (pic ioapic : Option ℕ) (msi : Option MsiWord) → is_without_effect (lowered_status pic ioapic msi) ≡ true → IsSaidOf b (record { pic = pic; ioapic = ioapic; msi = msi }) (lowered_status pic ioapic msi)
  lowered_says None None None quiet = record { pic = refl; other = refl; first = refl; unrouted = (λ _. record { pic = refl; ioapic = refl; msi = refl }, λ _. refl) }
  lowered_says _ _ _ quiet = absurd (true≢false (sym quiet))

  lower_says : (targets : Targets) (source : Source) (ws : Wishes) → Says b targets (run (lower targets source) b ws)
  lower_says targets source ws =
      says_after b targets (λ _. reply (Signal (lowered_status targets.pic targets.ioapic targets.msi))) (let_go targets source) b ws (let_go_holds (spared b) 0 (signals b) targets source) (λ n. refl)
      (λ _ d vs same. record {
        status = lowered_status targets.pic targets.ioapic targets.msi;
        answers = refl;
        effect = λ quiet. (lowered_says targets.pic targets.ioapic targets.msi quiet, same);
      })

  -- ---- each call

  -- a call has targets of which its status is said
  record Answered (call : Call) (o : Outcome (Unit {0})) : Type 0 where
    pub targets : Targets
    pub signalled : signal_targets (routing_on b) b.shape call ≡ Some targets
    pub says : Says b targets o

  -- or it answers no status
  abbrev Judged : Call → Outcome (Unit {0}) → Type 0
  Judged call o = Answered call o ⊎ (some_status o.log.answers ≡ false)

  line_judged : (gsi line : ℕ) (high : Bool) (n : ℕ) (ws : Wishes) → Answered (Call.Line gsi line high) (run (plan_in_range (routing_on b) b.shape n (Call.Line gsi line high)) b ws)
  line_judged gsi line true n ws = record {
    targets = (routing_on b).targets gsi;
    signalled = refl;
    says = says_before b ((routing_on b).targets gsi) (λ _. done tt) (raise b.shape.cpus ((routing_on b).targets gsi) (Line line) shown) b ws (raise_says b.tick (Line line) ws ((routing_on b).targets gsi)) (λ _ c vs fit. (refl, λ same. same));
  }
  line_judged gsi line false n ws = record { targets = (routing_on b).targets gsi; signalled = refl; says = lower_says ((routing_on b).targets gsi) (Line line) ws }

  message_judged : (address payload n : ℕ) (ws : Wishes) → Answered (Call.Msi address payload) (run (plan_in_range (routing_on b) b.shape n (Call.Msi address payload)) b ws)
  message_judged address payload n ws = record {
    targets = message_target address payload;
    signalled = refl;
    says = says_before b (message_target address payload) (λ _. done tt) (send b.shape.cpus (message_in address payload) None (shown None)) b ws
        (send_says b stand (message_target address payload) b.tick b.pic b.ioapic (message_in address payload) refl refl ws) (λ _ c vs fit. (refl, λ same. same));
  }

  write_judged : (counter count : ℕ) (trigger : Option TriggerWord) → (routing_on b).trigger counter ≡ trigger → (ws : Wishes) → Judged (Call.Write counter count) (run (write (routing_on b) b.shape trigger counter count) b ws)
  write_judged counter count None is ws = inr (count_mute (routing_on b) b.shape counter count b ws tt)
  write_judged counter count (Some trigger) is ws = elim (nat_eq count 0) as (λ t. Judged (Call.Write counter count) (run (if t then reply Done else trigger_written (routing_on b) b.shape trigger) b ws)) [
    | true ↦ inr refl
    | false ↦ inl (record {
      targets = (routing_on b).targets trigger.gsi;
      signalled = ap (option_map (λ (t : TriggerWord). (routing_on b).targets t.gsi)) is;
      says = says_before b ((routing_on b).targets trigger.gsi) (λ _. done tt) (inject b.shape.cpus ((routing_on b).targets trigger.gsi) (source_of trigger.resample) shown) b ws
          (inject_says b.tick (source_of trigger.resample) ws ((routing_on b).targets trigger.gsi)) (λ _ c vs fit. (refl, λ same. same));
    })
  ]

  tick_judged : (injects : Bool) (ws : Wishes) → Judged Call.Tick (run (tick_or_hold (routing_on b) b.shape (ticked b.tick) injects) (record b { tick = ticked b.tick }) ws)
  tick_judged true ws = inl (record {
    targets = (routing_on b).targets b.shape.tick;
    signalled = refl;
    says = says_before b ((routing_on b).targets b.shape.tick) (λ status. change Part.Tick (λ tick. tick_injected tick status)) (inject b.shape.cpus ((routing_on b).targets b.shape.tick) Tick shown) (record b { tick = ticked b.tick }) ws
        (inject_says (ticked b.tick) Tick ws ((routing_on b).targets b.shape.tick)) (λ status. changed (spared b) Part.Tick (λ tick. tick_injected tick status) (λ c fit. tt));
  })
  tick_judged false ws = inr refl

  range_judged : (n : ℕ) (call : Call) (ws : Wishes) → Judged call (run (plan_in_range (routing_on b) b.shape n call) b ws)
  range_judged n (Call.Line gsi line high) ws = inl (line_judged gsi line high n ws)
  range_judged n (Call.Msi address payload) ws = inl (message_judged address payload n ws)
  range_judged n (Call.Write counter count) ws = write_judged counter count ((routing_on b).trigger counter) refl ws
  range_judged n Call.Tick ws = tick_judged (tick_injects b.tick) ws
  range_judged n call ws = inr ((call_mute (routing_on b) b.shape n call refl) b ws tt)

  call_judged : (caller : Caller) (call : Call) (ws : Wishes) → Judged call (run (plan_on b caller call) b ws)
  call_judged caller call ws = of_refusal (first_of (range_reasons b.shape call))
    where
      of_refusal : (refusal : Option Refusal) → Judged call (run (unless_refused refusal (plan_in_range (routing_on b) b.shape (number_of caller) call)) b ws)
      of_refusal None = range_judged (number_of caller) call ws
      of_refusal (Some refusal) = inr refl

-- ---- each step

-- the status that is replied first, if there is one
abbrev first_status : List Reply → Status
first_status (Signal status ∷ rs) = status
first_status _ = Lowered

-- the counts of a board tell nothing of its local APICs
counted_requests : (t : Bool) (d : Board) (n : ℕ) → (part_of (with_counts t d) (Lapic n)).irr ≡ (part_of d (Lapic n)).irr
counted_requests true d n = refl
counted_requests false d n = refl

pub coalesced_and_ignored_change_no_request : CoalescedAndIgnoredChangeNoRequest
coalesced_and_ignored_change_no_request b e c stand s status replied quiet = of_judged (call_judged b stand e.caller e.call s.wishes)
  where
    answers : (outcome_of b e s.wishes).log.answers ≡ Signal status ∷ []
    answers = s.replied ∙ ap (λ r. r ∷ []) replied

    of_judged : Judged b stand e.call (outcome_of b e s.wishes) → ChangesNoRequest b e c status
    of_judged (inr none) = absurd (true≢false (sym (ap some_status answers) ∙ none))
    of_judged (inl one) =
        let same : one.says.status ≡ status = ap first_status (sym one.says.answers ∙ answers) in
        let effect = one.says.effect (ap is_without_effect same ∙ quiet) in
        record {
          targets = one.targets;
          signalled = one.signalled;
          said = subst (IsSaidOf b one.targets) same effect.0;
          requests = λ n.
              sym (ap (λ x. (part_of x (Lapic n)).irr) s.leads)
              ∙ counted_requests (would_publish b e.call) (outcome_of b e s.wishes).board n
              ∙ effect.1 n;
        }
