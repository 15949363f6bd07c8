-- Ticks are conserved, they are injected where the state is free, and other injections follow acknowledges.
use Rattle.board_laws.proofs.Basics.{routing_on, last_is_one, ◌≡◌, ℕ, ◌+◌, ◌-◌, Bool, true, false, true≢false, not, ◌&&◌, ◌||◌, nat_eq, min, if◌then◌else◌, ◌⊎◌, inl, inr, List, [], ◌∷◌, ◌++◌, refl, sym, ap, subst, ◌∙◌, arith, Some, None, Contains, list_any, Option, nat_tests, Contains-append_left, Contains-append_right, Call, Caller, Event, Acked, Rang, Injected, Entry, TickSource, Held, Part, Shape, Status, TickState, in_mode, ticked, tick_injects, tick_injected, Board, part_of, with_part, Routing, the_reply, Plan, change, Wishes, Outcome, run, inject, tick_or_hold, ◌≢◌, run-bind, plan_on, outcome_of, with_counts, would_publish, Step, opening, next_board, Leads, board_after, board_at, board_left, OfLegalHistories, is_tick, ticks_in, acks_in, ticks_taken_by, ticks_taken, is_tick_mode, sets_mode, StartsReinjection, TicksAreConserved, HoldsBack, BusyTicksAreHeldBack, IsFreeUnlessReinjects, StateIsFreeUnlessReinjects, FallsFree, TicksInjectFree, acks_or_injects, FollowsAcknowledge, OtherInjectionsFollowAcknowledges, next_is, or_neither}
use Rattle.board_laws.proofs.Points.{split, after_both, step_at, holds_at, at_points, of_boards}
use Rattle.board_laws.proofs.ConservingQuiet.{inject_quiet}
use Rattle.board_laws.proofs.ConservingAcks.{Conserves, is_rang, due_after, Singly, acks_append, quiet_acks}
use Rattle.board_laws.proofs.ConservingCalls.{Lets, call_keeps, tick_keeps}

-- ---- a tick that falls

-- it tells no acknowledge
fall_acks : (routing : Routing) (shape : Shape) (gsi : ℕ) (held : TickState) (injects : Bool) (b : Board) (ws : Wishes) → acks_in gsi (run (tick_or_hold routing shape held injects) b ws).log.events ≡ 0
fall_acks routing shape gsi held true b ws =
    let m = inject shape.cpus (routing.targets shape.tick) TickSource (λ pic. the_reply pic) in
    let f : Status → Plan (Unit {0}) = λ status. change Part.Tick (λ tick. tick_injected tick status) in
    ap (λ (o : Outcome (Unit {0})). acks_in gsi o.log.events) (run-bind f m b ws)
    ∙ acks_append gsi (run m b ws).log.events []
    ∙ none (acks_in gsi (run m b ws).log.events) (quiet_acks gsi (λ _. false) m b ws (inject_quiet (λ _. false) shape.cpus (routing.targets shape.tick) TickSource (λ pic. the_reply pic) (λ _. refl)))
  where
    none : (n : ℕ) → n ≡ 0 → n + 0 ≡ 0
    none n e = omega (arith, e)
fall_acks routing shape gsi held false b ws = refl

-- under reinjection it adds one
ticked_more : (s : TickState) → s.reinjects ≡ true → ((ticked s).reinjects ≡ true) × ((ticked s).pending ≡ s.pending + 1)
ticked_more s on = subst (λ (t : Bool). ((if t then record s { pending = s.pending + 1 } else s).reinjects ≡ true) × ((if t then record s { pending = s.pending + 1 } else s).pending ≡ s.pending + 1)) (sym on) (on, refl)

-- ---- one step

-- what a call does to ticks under reinjection, by the board and the events of its outcome
record Balances {A : Type 0} (call : Call) (b : Board) (o : Outcome A) : Type 0 where
  reinjects : o.board.tick.reinjects ≡ true
  balance : o.board.tick.pending + min (acks_in b.shape.tick o.log.events) b.tick.pending ≡ b.tick.pending + is_tick call

lets_all : (call : Call) → is_tick call ≡ 0 → is_tick_mode call ≡ false → Lets true (λ _. true) call
lets_all (Call.Assign trigger gsi resample) other stays = refl
lets_all (Call.PortOut port len value) other stays = inr refl
lets_all (Call.Store address len value) other stays = inr refl
lets_all Call.Tick other stays = cc
lets_all (Call.TickMode reinject) other stays = cc
lets_all _ other stays = tt

balances : (b : Board) (caller : Caller) (ws : Wishes) → b.tick.reinjects ≡ true → (call : Call) → is_tick_mode call ≡ false → Balances call b (run (plan_on b caller call) b ws)
balances b caller ws on call stays = by_call call stays
  where
    others : (call : Call) → is_tick call ≡ 0 → is_tick_mode call ≡ false → Balances call b (run (plan_on b caller call) b ws)
    others call other stays =
        let r = call_keeps (routing_on b) b.shape true (λ _. true) caller call (lets_all call other stays) b ws in
        let o = run (plan_on b caller call) b ws in
        record { reinjects = r.reinjects ∙ on; balance = sum o.board.tick.pending b.tick.pending (acks_in b.shape.tick o.log.events) (is_tick call) (r.pending on) other }
      where
        sum : (left was acks one : ℕ) → left ≡ was - (0 + acks) → one ≡ 0 → left + min acks was ≡ was + one
        sum left was acks one e f = omega (arith, e, f)

    fallen : Balances Call.Tick b (run (plan_on b caller Call.Tick) b ws)
    fallen =
        let held = ticked b.tick in
        let injects = tick_injects b.tick in
        let during = with_part b Part.Tick held in
        let r = tick_keeps (routing_on b) b.shape true (λ _. true) held injects during ws in
        let o = run (tick_or_hold (routing_on b) b.shape held injects) during ws in
        let more = ticked_more b.tick on in
        record { reinjects = r.reinjects ∙ more.0; balance = sum o.board.tick.pending held.pending b.tick.pending (acks_in b.shape.tick o.log.events) (r.pending more.0) more.1 (fall_acks (routing_on b) b.shape b.shape.tick held injects during ws) }
      where
        sum : (left held was acks : ℕ) → left ≡ held - (0 + acks) → held ≡ was + 1 → acks ≡ 0 → left + min acks was ≡ was + 1
        sum left held was acks e f g = omega (arith, e, f, g)

    by_call : (call : Call) → is_tick_mode call ≡ false → Balances call b (run (plan_on b caller call) b ws)
    by_call Call.Tick stays = fallen
    by_call (Call.TickMode reinject) stays = cc
    by_call call stays = others call refl stays

counted_tick : (t : Bool) (b : Board) → (with_counts t b).tick ≡ b.tick
counted_tick t b = grind arith

-- what a step does to ticks under reinjection
record StepBalances (b : Board) (e : Entry) (c : Board) : Type 0 where
  reinjects : c.tick.reinjects ≡ true
  balance : c.tick.pending + ticks_taken_by b e ≡ b.tick.pending + is_tick e.call

step_balances : (b : Board) (e : Entry) (c : Board) → Step b e c → b.tick.reinjects ≡ true → sets_mode e ≡ false → StepBalances b e c
step_balances b e c s on stays =
    let r = balances b e.caller s.wishes on e.call stays in
    let o = outcome_of b e s.wishes in
    let same : c.tick ≡ o.board.tick = ap (λ (d : Board). d.tick) (sym s.leads) ∙ counted_tick (would_publish b e.call) o.board in
    record {
      reinjects = ap (λ (t : TickState). t.reinjects) same ∙ r.reinjects;
      balance = ap (λ (t : TickState). t.pending + ticks_taken_by b e) same ∙ ap (λ (events : List Event). o.board.tick.pending + min (acks_in b.shape.tick events) b.tick.pending) (sym s.told) ∙ r.balance;
    }

-- ---- a history

balance : (b : Board) (es : List Entry) (c : Board) → b.tick.reinjects ≡ true → Leads b es c → list_any sets_mode es ≡ false → b.tick.pending + ticks_in es ≡ c.tick.pending + ticks_taken b es
balance b [] c on same stays = ap (λ (d : Board). d.tick.pending + 0) same
balance b (e ∷ es) c on (next, step, leads) stays =
    let each = or_neither (sets_mode e) (list_any sets_mode es) stays in
    let one = step_balances b e next step on each.0 in
    let later = balance next es c one.reinjects leads each.1 in
    sum b.tick.pending next.tick.pending c.tick.pending (is_tick e.call) (ticks_in es) (ticks_taken_by b e) (ticks_taken next es) (ticks_taken (next_board b e) es) one.balance later (ap (λ (d : Board). ticks_taken d es) (next_is b e next step))
  where
    sum : (was mid last one more taken later again : ℕ) → mid + taken ≡ was + one → mid + more ≡ last + later → again ≡ later → was + (one + more) ≡ last + (taken + again)
    sum was mid last one more taken later again e f g = omega (arith, e, f, g)

-- from any board on which reinjection starts
conserved_from : (b : Board) (es : List Entry) (c : Board) → b.tick ≡ in_mode true → Leads b es c → list_any sets_mode es ≡ false → ticks_in es ≡ c.tick.pending + ticks_taken b es
conserved_from b es c start leads stays =
    sum b.tick.pending (ticks_in es) c.tick.pending (ticks_taken b es) (ap (λ (t : TickState). t.pending) start) (balance b es c (ap (λ (t : TickState). t.reinjects) start) leads stays)
  where
    sum : (was all last taken : ℕ) → was ≡ 0 → was + all ≡ last + taken → all ≡ last + taken
    sum was all last taken e f = omega (arith, e, f)

-- reinjection starts on the board after such entries
started : (shape : Shape) (early : List Entry) (b : Board) → Leads (opening shape) early b → StartsReinjection early → b.tick ≡ in_mode true
started shape early b leads (inl none) = ap (λ (d : Board). d.tick) (sym (subst (λ (es : List Entry). Leads (opening shape) es b) none leads))
started shape early b leads (inr turned) = of_end (split (opening shape) turned.before (turned.last ∷ []) b (subst (λ (es : List Entry). Leads (opening shape) es b) turned.ends leads)).1
  where
    of_end : Leads (board_after (opening shape) turned.before) (turned.last ∷ []) b → b.tick ≡ in_mode true
    of_end (next, step, same) = ap (λ (d : Board). d.tick) (sym same) ∙ (grind (arith, step, turned.call))

pub ticks_are_conserved : OfLegalHistories TicksAreConserved
ticks_are_conserved shape history (last, leads) early es stretch =
    let first = split (opening shape) early (es ++ stretch.more) last (subst (λ (l : List Entry). Leads (opening shape) l last) stretch.parts leads) in
    let start = board_after (opening shape) early in
    conserved_from start es (board_after start es) (started shape early start first.0 stretch.starts) (split start es stretch.more last first.1).0 stretch.stays
    ∙ ap (λ (c : Board). c.tick.pending + ticks_taken start es) (sym (after_both (opening shape) early es))

-- ---- ticks are injected where the state is free

-- a write of the tick state, and a count of calls, change no other part
counted_part : (t : Bool) (b : Board) (v : TickState) (q : Part) → q ≢ Part.Tick → part_of (with_counts t (with_part b Part.Tick v)) q ≡ part_of b q
counted_part t b v Part.Tick other = absurd (other refl)
counted_part true b v _ other = refl
counted_part false b v _ other = refl

-- a tick that is not injected answers how many are pending, and writes no more
held_back : (b : Board) (e : Entry) (c : Board) (s : Step b e c) → e.call ≡ Call.Tick → b.tick.reinjects ≡ true → tick_injects b.tick ≡ false → HoldsBack b e c
held_back b e c s falls on never =
    record {
      reply = last_is_one [] (Held (ticked b.tick).pending) e.reply (sym (ap (λ (o : Outcome (Unit {0})). o.log.answers) is) ∙ s.replied) ∙ ap Held (ticked_more b.tick on).1;
      events = sym s.told ∙ ap (λ (o : Outcome (Unit {0})). o.log.events) is;
      tick = ap (λ (d : Board). d.tick) left ∙ counted_tick (would_publish b e.call) during;
      parts = λ q other. ap (λ (d : Board). part_of d q) left ∙ counted_part (would_publish b e.call) b (ticked b.tick) q other;
    }
  where
    during : Board
    during = with_part b Part.Tick (ticked b.tick)

    is : outcome_of b e s.wishes ≡ run (tick_or_hold (routing_on b) b.shape (ticked b.tick) false) during s.wishes
    is = ap (λ (call : Call). run (plan_on b e.caller call) b s.wishes) falls ∙ ap (λ (t : Bool). run (tick_or_hold (routing_on b) b.shape (ticked b.tick) t) during s.wishes) never

    left : c ≡ with_counts (would_publish b e.call) during
    left = sym s.leads ∙ ap (λ (o : Outcome (Unit {0})). with_counts (would_publish b e.call) o.board) is

pub busy_ticks_are_held_back : BusyTicksAreHeldBack
busy_ticks_are_held_back b e c s falls on busy = held_back b e c s falls on (ap (λ t. not t || b.tick.free) on ∙ busy)

-- ---- without reinjection the state is free

-- a tick state that is free unless it reinjects
abbrev IsOpen : TickState → Type 0
IsOpen s = s.reinjects ≡ false → s.free ≡ true

-- a plan that changes no tick state without reinjection keeps it open
open_stays : {A : Type 0} {tick taken : ℕ} {rings : Bool} {may : ℕ → Bool} {b : Board} {o : Outcome A} → Conserves tick rings may taken b o → IsOpen b.tick → IsOpen o.board.tick
open_stays r before off = let was = sym r.reinjects ∙ off in ap (λ (s : TickState). s.free) (r.stays was) ∙ before was

call_open : (b : Board) (caller : Caller) (ws : Wishes) (call : Call) → IsOpen b.tick → IsOpen (run (plan_on b caller call) b ws).board.tick
call_open b caller ws call before = by_call call
  where
    by_call : (call : Call) → IsOpen (run (plan_on b caller call) b ws).board.tick
    by_call Call.Tick =
        open_stays (tick_keeps (routing_on b) b.shape true (λ _. true) (ticked b.tick) (tick_injects b.tick) (with_part b Part.Tick (ticked b.tick)) ws) ((elim b.tick.reinjects as (λ t. IsOpen b.tick → IsOpen (if t then record b.tick { pending = b.tick.pending + 1 } else b.tick)) [ true ↦ λ before. before | false ↦ λ before. before ]) before)
    by_call (Call.TickMode reinject) = λ _. refl
    by_call call = open_stays (call_keeps (routing_on b) b.shape true (λ _. true) caller call (lets_all call refl refl) b ws) before

step_open : (b : Board) (e : Entry) (c : Board) → Step b e c → IsFreeUnlessReinjects b → IsFreeUnlessReinjects c
step_open b e c s before =
    subst IsFreeUnlessReinjects s.leads (subst IsOpen (sym (counted_tick (would_publish b e.call) (outcome_of b e s.wishes).board)) (call_open b e.caller s.wishes e.call before))

opening_open : (shape : Shape) → IsFreeUnlessReinjects (opening shape)
opening_open shape off = refl

pub state_is_free_unless_reinjects : OfLegalHistories StateIsFreeUnlessReinjects
state_is_free_unless_reinjects = of_boards IsFreeUnlessReinjects step_open opening_open

-- a tick is injected where the state is free, in either mode
falls_free : (b : Board) (e : Entry) (c : Board) → Step b e c → IsFreeUnlessReinjects b → FallsFree b e c
falls_free b e c s before = record { injected = λ status falls replied. (grind (arith, falls, replied, refl)); held = held }
  where
    held : e.call ≡ Call.Tick → b.tick.free ≡ false → HoldsBack b e c
    held falls busy = of_mode b.tick.reinjects refl
      where
        of_mode : (t : Bool) → b.tick.reinjects ≡ t → HoldsBack b e c
        of_mode true on = busy_ticks_are_held_back b e c s falls on busy
        of_mode false off = absurd (true≢false (sym (before off) ∙ busy))

pub ticks_inject_free : OfLegalHistories TicksInjectFree
ticks_inject_free = at_points (λ shape p. FallsFree (board_at shape p) p.entry (board_left shape p))
    (λ shape p legal. falls_free (board_at shape p) p.entry (board_left shape p) (step_at shape p legal) (holds_at shape p legal IsFreeUnlessReinjects step_open (opening_open shape)))

-- ---- other injections follow acknowledges

lets_none : (call : Call) → ((trigger gsi : ℕ) (resample : Option ℕ) → call ≡ Call.Assign trigger gsi resample → ⊥) → is_tick call ≡ 0 → is_tick_mode call ≡ false → Lets true (λ _. false) call
lets_none (Call.Assign trigger gsi resample) makes other stays = absurd (makes trigger gsi resample refl)
lets_none (Call.PortOut port len value) makes other stays = inr refl
lets_none (Call.Store address len value) makes other stays = inr refl
lets_none Call.Tick makes other stays = cc
lets_none (Call.TickMode reinject) makes other stays = cc
lets_none _ makes other stays = tt

singly : (b : Board) (caller : Caller) (ws : Wishes) (call : Call) → ((trigger gsi : ℕ) (resample : Option ℕ) → call ≡ Call.Assign trigger gsi resample → ⊥) → Singly b.shape.tick (λ _. false) false (run (plan_on b caller call) b ws).log.events
singly b caller ws call makes = by_call call makes
  where
    by_call : (call : Call) → ((trigger gsi : ℕ) (resample : Option ℕ) → call ≡ Call.Assign trigger gsi resample → ⊥) → Singly b.shape.tick (λ _. false) false (run (plan_on b caller call) b ws).log.events
    by_call Call.Tick makes = (tick_keeps (routing_on b) b.shape true (λ _. false) (ticked b.tick) (tick_injects b.tick) (with_part b Part.Tick (ticked b.tick)) ws).singly
    by_call (Call.TickMode reinject) makes = tt
    by_call call makes = (call_keeps (routing_on b) b.shape true (λ _. false) caller call (lets_none call makes refl refl) b ws).singly

-- no event of these is that of an ioeventfd
abbrev RingsNothing : List Event → Type 0
RingsNothing events = (counter : ℕ) → Contains events (Rang counter) → ⊥

head_rings : (x : Event) (xs : List Event) → RingsNothing (x ∷ xs) → is_rang x ≡ false
head_rings (Rang counter) xs never = absurd (never counter (Contains-append_left (Rang counter ∷ []) xs (Rang counter) (0, omega arith, refl)))
head_rings _ xs never = refl

-- why the tick is injected: it was due before, and stays so, or an acknowledge made it due
abbrev Comes : ℕ → Bool → List Event → Type 0
Comes tick due before = ((due ≡ true) × (list_any acks_or_injects before ≡ false)) ⊎ FollowsAcknowledge tick before

module _ (tick : ℕ) where
  -- an event more before
  comes_later : (due : Bool) (x : Event) (before : List Event) → Comes tick (due_after tick due x) before → Comes tick due (x ∷ before)
  comes_later due x before (inr found) = inr (record { early = x ∷ found.early; pin = found.pin; mid = found.mid; told = ap (λ l. x ∷ l) found.told; next = found.next })
  comes_later due x before (inl (is, none)) = by_event x is
    where
      same : (g : ℕ) → nat_eq g tick ≡ true → g ≡ tick
      same g h = grind (arith, nat_tests)

      by_event : (x : Event) → due_after tick due x ≡ true → Comes tick due (x ∷ before)
      by_event (Acked pin None) is = absurd (true≢false (sym is))
      by_event (Acked pin (Some g)) is = inr (record { early = []; pin = pin; mid = before; told = ap (λ n. Acked pin (Some n) ∷ before) (same g is); next = none })
      by_event (Injected g status) is = absurd (true≢false (sym is))
      by_event _ is = inl (is, none)

  comes : (due : Bool) (before after : List Event) (gsi : ℕ) (status : Status) → RingsNothing (before ++ Injected gsi status ∷ after) → Singly tick (λ _. false) due (before ++ Injected gsi status ∷ after) → (gsi ≡ tick) × Comes tick due before
  comes due [] after gsi status never h = let both = split due h.0 in (both.1, inl (both.0, refl))
    where
      split : (due : Bool) → (due && nat_eq gsi tick) ≡ true → (due ≡ true) × (gsi ≡ tick)
      split due h1 = grind arith
  comes due (x ∷ before) after gsi status never h =
      let later = comes (due_after tick due x) before after gsi status (λ counter rang. never counter (Contains-append_right (x ∷ []) (before ++ Injected gsi status ∷ after) (Rang counter) rang)) (h.1 (head_rings x (before ++ Injected gsi status ∷ after) never)) in
      (later.0, comes_later due x before later.1)

pub other_injections_follow_acknowledges : OtherInjectionsFollowAcknowledges
other_injections_follow_acknowledges b e c s none before gsi is =
    let found = comes b.shape.tick false before is.after gsi is.status (subst (λ (events : List Event). RingsNothing events) is.told none.rings)
    (subst (λ (events : List Event). Singly b.shape.tick (λ _. false) false events) (s.told ∙ is.told) (singly b e.caller s.wishes e.call none.makes)) in
    elim found.1 [
      | inl early ↦ absurd (true≢false (sym early.0))
      | inr follows ↦ (found.0, subst (λ (g : ℕ). FollowsAcknowledge g before) (sym found.0) follows)
    ]
