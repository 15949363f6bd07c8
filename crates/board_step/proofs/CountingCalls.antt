-- Every call answers exactly once, and tells few events besides those of its acknowledges.
use Rattle.board_step.proofs.Basics.{◌≡◌, ℕ, ◌+◌, ◌≤◌, Bool, true, false, true≢false, List, refl, sym, ◌∙◌, arith, Some, None, Option, first_of, Call, Caller, Rang, Pin, Registry, Refusal, Shape, IoapicChip, Pair, cycle, RegistryPart, Routing, Board, part_of, with_part, injected, ipi, the_reply, Plan, ◌>>=◌, Wishes, run, send, raise, inject, inject_tick, resend, let_go, lower, acknowledge_each, range_reasons, unless_refused, pins_with, pic_pin, cycle_pins, number_of, plan_in_range, plan_of, Told, Tells, IsKind, tells_both, tells_more, send_tells, let_go_tells, lower_tells, raise_tells, inject_tells, HasRegistry, each_events, tell_tells, resend_tells, inject_tick_tells, registry_kind, each_tells}
use Rattle.board_step.proofs.CallRules.{Rules, Acks, writes_in, in_range}

-- every board
abbrev pub Any : Board → Type 0
Any b = Unit {0}

-- the rules of counting on boards of a kind, where the registry may be written or not
module _ (Kind : Board → Type 0) (kind : IsKind Kind) (Writes : Type 0) (kept : Writes → (b : Board) (v : RegistryPart) → Kind b → Kind (with_part b Registry v)) where
  more_events : (i j k : ℕ) {A : Type 0} (m : Plan A) → i ≤ j → Tells Kind i k m → Tells Kind j k m
  more_events i j k m less h = tells_more Kind i j k k m less refl h

  abbrev counting : Rules
  counting = record {
    At = λ i k m. Tells Kind i k m;
    InReply = Unit {0};
    InEvents = Unit {0};
    Writes = Writes;
    Refuses = Unit {0};
    ends = λ i a b ws h. record { events_at_most = omega arith; answers_exactly = refl; left = h };
    more = λ i j k m less h. more_events i j k m less h;
    looks = λ i k p f h b ws fit. h (part_of b p) b ws fit;
    puts = λ i k p v rest other h b ws fit. h (with_part b p v) ws (kind b p v other fit);
    writes = λ i k v rest may h b ws fit. h (with_part b Registry v) ws (kept may b v fit);
    binds = λ i k l f m h next. more_events (i + 0) i (k + l) (m >>= f) (omega arith) (tells_both Kind i 0 k l f m h next);
    rings = λ i k counter m h. tell_tells Kind kind i k (Rang counter) m h;
    replies = λ i r sets accepts b ws h. record { events_at_most = omega arith; answers_exactly = refl; left = h };
    refusals = λ i refusal may b ws h. record { events_at_most = omega arith; answers_exactly = refl; left = h };
    leaves = λ i targets source. more_events 0 i 0 (let_go targets source) (omega arith) (let_go_tells Kind kind targets source);
    lowers = λ i targets source. more_events 0 i 1 (lower targets source) (omega arith) (lower_tells Kind kind targets source);
    raises = λ there i cpus targets source. more_events 0 i 1 (raise cpus targets source (λ pic. the_reply pic)) (omega arith) (raise_tells Kind kind cpus targets source (λ pic. the_reply pic) 0 1 (λ _. refl) (λ _. refl));
    injects = λ there i cpus targets source. more_events 0 i 1 (inject cpus targets source (λ pic. the_reply pic)) (omega arith) (inject_tells Kind kind cpus targets source (λ pic. the_reply pic) 0 1 (λ _. refl) (λ _. refl));
    sends = λ there i cpus message. more_events 0 i 1 (send cpus message None (the_reply None)) (omega arith) (send_tells Kind kind (the_reply None) cpus message None);
    ticks = λ there i routing shape. more_events 0 i 1 (inject_tick routing shape (λ pic. the_reply pic)) (omega arith) (inject_tick_tells Kind kind routing shape (λ pic. the_reply pic) 0 1 (λ _. refl) (λ _. refl));
    signals = λ there i cpus one targets source gsi. more_events 1 i 0 (inject cpus targets source (λ pic. injected gsi pic)) one (inject_tells Kind kind cpus targets source (λ pic. injected gsi pic) 1 0 (λ _. refl) (λ _. refl));
    ipis = λ there i cpus one message from. more_events 1 i 0 (send cpus message from ipi) one (send_tells Kind kind ipi cpus message from);
    resends = λ there i cpus one pin message. more_events 1 i 0 (resend cpus pin message) one (resend_tells Kind kind cpus pin message);
  }

-- the number bounds the events of the acknowledges of one call, and those of the call besides
pub record Bounds (routing : Routing) (shape : Shape) (registry : RegistryPart) (most : ℕ) : Type 0 where
  pub few : 2 ≤ most
  pub ended : (chip : IoapicChip) (vector : ℕ) → each_events routing shape registry (pins_with chip vector) ≤ most
  pub one : (pin : Option ℕ) → each_events routing shape registry (pic_pin pin) ≤ most
  pub cycled : (pair : Pair) → each_events routing shape registry (cycle_pins (cycle pair).pins) ≤ most

module _ (routing : Routing) (shape : Shape) (registry : RegistryPart) (most : ℕ) (bounds : Bounds routing shape registry most) where
  acks : Acks (counting (HasRegistry registry) (registry_kind registry) ⊥ (λ never b v h. absurd never)) routing shape most
  acks = record { ended = λ chip vector. few _ (bounds.ended chip vector); one = λ pin. few _ (bounds.one pin); cycled = λ pair. few _ (bounds.cycled pair) }
    where
      few : (list : List Pin) → each_events routing shape registry list ≤ most → Tells (HasRegistry registry) most 0 (acknowledge_each routing shape list)
      few list less = tells_more (HasRegistry registry) (each_events routing shape registry list) most 0 0 (acknowledge_each routing shape list) less refl (each_tells routing shape registry list)

  once : (n : ℕ) (call : Call) (b : Board) (ws : Wishes) → b.registry ≡ registry → Told Any most 1 (run (plan_in_range routing shape n call) b ws)
  once n call b ws h = by_kind (writes_in call) refl
    where
      by_kind : (t : Bool) → writes_in call ≡ t → Told Any most 1 (run (plan_in_range routing shape n call) b ws)
      by_kind true is = in_range (counting Any (λ b p v other h. tt) (Unit {0}) (λ may b v h. tt)) routing shape most bounds.few n call
          (record { replies = λ _. tt; events = λ _. tt; writes = λ _. tt; refuses = λ _. tt }) (λ reads there. absurd (true≢false (sym is ∙ reads))) b ws tt
      by_kind false is =
          let told = in_range (counting (HasRegistry registry) (registry_kind registry) ⊥ (λ never b v h. absurd never)) routing shape most bounds.few n call
          (record { replies = λ _. tt; events = λ _. tt; writes = λ may. absurd (true≢false (sym may ∙ is)); refuses = λ _. tt }) (λ reads there. acks) b ws h in
          record { events_at_most = told.events_at_most; answers_exactly = told.answers_exactly; left = tt }

  -- a call answers once, and tells at most so many events
  pub call_tells : (caller : Caller) (call : Call) (b : Board) (ws : Wishes) → b.registry ≡ registry → Told Any most 1 (run (plan_of routing shape caller call) b ws)
  call_tells caller call = unless (first_of (range_reasons shape call))
    where
      unless : (refusal : Option Refusal) (b : Board) (ws : Wishes) → b.registry ≡ registry → Told Any most 1 (run (unless_refused refusal (plan_in_range routing shape (number_of caller) call)) b ws)
      unless None = once (number_of caller) call
      unless (Some refusal) = λ b ws h. record { events_at_most = omega arith; answers_exactly = refl; left = tt }
