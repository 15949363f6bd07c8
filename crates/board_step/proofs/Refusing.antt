-- A call that is refused, and no other, answers its refusal.
use Rattle.board_step.proofs.Basics.{arith, ◌≡◌, ℕ, Bool, true, false, not, ◌||◌, if◌then◌else◌, List, [], ◌∷◌, ◌++◌, refl, sym, ap, ◌∙◌, true≢false, option_map, Some, None, Option, Reason, first_of, Call, Caller, Entry, Refusal, Reply, Refused, Done, Irqfd, of_trigger, Board, trigger_of, routing_of_registry, Plan, Wishes, Outcome, run, range_reasons, write_reasons, unless_refused, write, number_of, plan_in_range, is_some, Manner, some_refusal, Keeps, accepts, later_reasons, refusal_on as refusal_of, plan_on, outcome_of, Step, RefusesRightly}
use Rattle.board_step.proofs.CallManner.{replies_in, writes_in, refuses_in, ends, write_trigger_keeps, assigned_keeps, in_range_keeps, or_true}

-- ---- reasons one after another

-- the first of two, if there is one
abbrev or_else : Option Refusal → Option Refusal → Option Refusal
or_else None other = other
or_else (Some refusal) other = Some refusal

first_of_both : (rs qs : List Reason) → first_of (rs ++ qs) ≡ or_else (first_of rs) (first_of qs)
first_of_both [] qs = refl
first_of_both (r ∷ rs) qs = elim r.0 as (λ t. (if t then Some r.1 else first_of (rs ++ qs)) ≡ or_else (if t then Some r.1 else first_of rs) (first_of qs)) [
  | true ↦ refl
  | false ↦ first_of_both rs qs
]

-- what is answered where a call is refused
abbrev refused_outcome : Board → Wishes → Refusal → Outcome (Unit {0})
refused_outcome b ws refusal = record { value = tt; log = record { events = []; answers = Refused refusal ∷ []; sendings = [] }; board = b; wishes = ws }

-- the manner of a call that does not refuse
abbrev careful : Bool → Manner
careful replies = record { replies = replies; writes = true; refuses = false }

module _ (b : Board) (caller : Caller) (ws : Wishes) where
  abbrev in_range : Call → Outcome (Unit {0})
  in_range call = run (plan_in_range (routing_of_registry b.registry b.shape.tick) b.shape (number_of caller) call) b ws

  -- a plan that is refused
  is_refused : (refused : Option Refusal) (plan : Plan (Unit {0})) (refusal : Refusal) → refused ≡ Some refusal → run (unless_refused refused plan) b ws ≡ refused_outcome b ws refusal
  is_refused refused plan refusal is = ap (λ r. run (unless_refused r plan) b ws) is

  -- a write is refused where its counter is no trigger
  write_refused : (counter count : ℕ) (refusal : Refusal) (row : Option Irqfd) → first_of (if is_some row then [] else write_reasons b.counters counter count) ≡ Some refusal
      → run (write (routing_of_registry b.registry b.shape.tick) b.shape (option_map trigger_of row) counter count) b ws ≡ refused_outcome b ws refusal
  write_refused counter count refusal None is = is_refused _ _ refusal is
  write_refused counter count refusal (Some row) is = cc

  -- a call that is refused
  call_refused : (call : Call) (refusal : Refusal) → refusal_of b call ≡ Some refusal → run (plan_on b caller call) b ws ≡ refused_outcome b ws refusal
  call_refused call refusal is = by_range (first_of (range_reasons b.shape call)) (sym (first_of_both (range_reasons b.shape call) (later_reasons b call)) ∙ is)
    where
      by_range : (range : Option Refusal) → or_else range (first_of (later_reasons b call)) ≡ Some refusal
          → run (unless_refused range (plan_in_range (routing_of_registry b.registry b.shape.tick) b.shape (number_of caller) call)) b ws ≡ refused_outcome b ws refusal
      by_range None is = grind (arith, write_refused, is_refused, is)
      by_range (Some first) is = is_refused (Some first) (plan_in_range (routing_of_registry b.registry b.shape.tick) b.shape (number_of caller) call) refusal is

  -- ---- a call that is not refused

  -- a plan that is not refused
  is_accepted : (w : Manner) (refused : Option Refusal) (plan : Plan (Unit {0})) → refused ≡ None → w.refuses ≡ false → Keeps w plan → some_refusal (run (unless_refused refused plan) b ws).log.answers ≡ false
  is_accepted w refused plan is never h = ap (λ r. some_refusal (run (unless_refused r plan) b ws).log.answers) is ∙ accepts w plan b ws never h

  write_accepted : (counter count : ℕ) (row : Option Irqfd) → first_of (if is_some row then [] else write_reasons b.counters counter count) ≡ None
      → some_refusal (run (write (routing_of_registry b.registry b.shape.tick) b.shape (option_map trigger_of row) counter count) b ws).log.answers ≡ false
  write_accepted counter count None is = is_accepted (careful true) _ _ is refl (refl, ends (careful true) Done refl refl)
  write_accepted counter count (Some row) is =
      accepts (careful true) (write (routing_of_registry b.registry b.shape.tick) b.shape (Some (trigger_of row)) counter count) b ws refl
      (write_trigger_keeps (careful true) (routing_of_registry b.registry b.shape.tick) b.shape refl (trigger_of row) counter count)

  -- a call that nothing on the board refuses
  never_refused : (call : Call) → not (refuses_in call) ≡ true → some_refusal (in_range call).log.answers ≡ false
  never_refused call never =
      let w = careful (replies_in call) in
      accepts w (plan_in_range (routing_of_registry b.registry b.shape.tick) b.shape (number_of caller) call) b ws refl
      (in_range_keeps w (routing_of_registry b.registry b.shape.tick) b.shape (number_of caller) call (record { replies = refl; writes = or_true (not (writes_in call)); refuses = ap (λ t. t || false) never }))

  later_accepted : (call : Call) → first_of (later_reasons b call) ≡ None → some_refusal (in_range call).log.answers ≡ false
  later_accepted (Call.Write counter count) is = write_accepted counter count (of_trigger b.registry.irqfds counter) is
  later_accepted (Call.Assign trigger gsi resample) is = is_accepted (careful false) _ _ is refl (assigned_keeps (careful false) (routing_of_registry b.registry b.shape.tick) b.shape refl refl b.registry b.counters trigger gsi resample)
  later_accepted (Call.Attach space address len counter want) is = is_accepted (careful false) _ _ is refl (refl, ends (careful false) Done refl refl)
  later_accepted (Call.Detach space address len counter want) is = is_accepted (careful false) _ _ is refl (refl, ends (careful false) Done refl refl)
  later_accepted (Call.Watch counter gsi) is = is_accepted (careful false) _ _ is refl (refl, ends (careful false) Done refl refl)
  later_accepted (Call.Unwatch counter gsi) is = is_accepted (careful false) _ _ is refl (refl, ends (careful false) Done refl refl)
  later_accepted call is = never_refused call refl

  -- a call that is not refused answers no refusal
  call_accepted : (call : Call) → refusal_of b call ≡ None → some_refusal (run (plan_on b caller call) b ws).log.answers ≡ false
  call_accepted call is = by_range (first_of (range_reasons b.shape call)) (sym (first_of_both (range_reasons b.shape call) (later_reasons b call)) ∙ is)
    where
      by_range : (range : Option Refusal) → or_else range (first_of (later_reasons b call)) ≡ None
          → some_refusal (run (unless_refused range (plan_in_range (routing_of_registry b.registry b.shape.tick) b.shape (number_of caller) call)) b ws).log.answers ≡ false
      by_range None is = later_accepted call is
      by_range (Some first) is = cc

-- ---- the laws

pub refuses_first : (b : Board) (caller : Caller) (call : Call) (ws : Wishes) (refusal : Refusal) → refusal_of b call ≡ Some refusal → RefusesRightly b caller call ws refusal
refuses_first b caller call ws refusal is =
    let o = call_refused b caller ws call refusal is in
    record { answers = ap (λ o. o.log.answers) o; events = ap (λ o. o.log.events) o; board = ap (λ o. o.board) o }

-- the refusal that is answered first, if it is one
abbrev refusal_first : List Reply → Option Refusal
refusal_first (Refused refusal ∷ rs) = Some refusal
refusal_first _ = None

pub refused_rightly : (b : Board) (e : Entry) (c : Board) (refusal : Refusal) → Step b e c → e.reply ≡ Refused refusal → refusal_of b e.call ≡ Some refusal
refused_rightly b e c refusal s replied = by_refusal (refusal_of b e.call) refl
  where
    answers : (outcome_of b e s.wishes).log.answers ≡ Refused refusal ∷ []
    answers = s.replied ∙ ap (λ r. r ∷ []) replied

    by_refusal : (is : Option Refusal) → refusal_of b e.call ≡ is → is ≡ Some refusal
    by_refusal None is = absurd (true≢false (sym (ap some_refusal answers) ∙ call_accepted b e.caller s.wishes e.call is))
    by_refusal (Some first) is = ap refusal_first (sym (refuses_first b e.caller e.call s.wishes first is).answers ∙ answers)
