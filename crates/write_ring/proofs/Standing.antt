-- What stands of the state that a seat's list leaves, and what an exchange of the front makes of the queue in hand
use Rattle.std.proofs.Common.{◌≡◌, ℕ, ◌+◌, ◌<◌, ◌≤◌, ◌^◌, Bool, true, false, List, [], ◌∷◌, ◌++◌, length, refl, sym, ap, ◌∙◌, subst, arith}
use Rattle.std.specs.Prelude.{Some, None, IfSome, IfOk, Ok, Err, is_some, nat_eq, slice_get, if◌then◌else◌}
use Rattle.std.specs.declared.option.Option.{Option}
use Rattle.std.specs.declared.result.Result.{Result}
use Rattle.turn_book.specs.declared.view.Front.{Front}
use Rattle.turn_book.specs.Hands.{held_at}
use Rattle.turn_book.specs.Histories.{Runs}
use Rattle.turn_book.specs.Plays.{LeadsOn, HoldsReach}
use Rattle.turn_book.proofs.Lists.{some_is, has}
use Rattle.write_ring.specs.declared.machine.RingEntry.{RingEntry}
use Rattle.write_ring.specs.declared.machine.RingEntry.TheVariants.{Put, Take}
use Rattle.write_ring.specs.declared.machine.RingState.{RingState}
use Rattle.write_ring.specs.declared.queue.RingQueue.{RingQueue}
use Rattle.write_ring.specs.Queue.{queue_next, queue_from, queue_after, Answers}
use Rattle.write_ring.specs.Ring.{empty_ring, IsRingStep, IsRingHistory, pass_of, is_queue}
use Rattle.write_ring.specs.Laws.{entries_counted, bounded}
use Rattle.write_ring.specs.Seen.{Seen}
use Rattle.write_ring.specs.Standing.{IsRight, HoldsQueue, MayEnter, HasEntered}

-- ---- along a history

pub queue_runs : (s : RingState) (es : List RingEntry) (t : RingState) → Runs IsRingStep s es t → t.queue ≡ queue_from s.queue es
queue_runs s [] t runs = ap (λ (x : RingState). x.queue) runs
queue_runs s (e ∷ es) t (m, step, more) = queue_runs m es t more ∙ ap (λ q. queue_from q es) step.1

placed_once : (e : RingEntry) (q : RingQueue) → (queue_next e q).placed ≤ q.placed + 1
placed_once (Put pass w reply) q = by_test (nat_eq (length q.writes.items) 128)
  where
    by_test : (b : Bool) → (if b then q else record { writes = record { items = q.writes.items ++ w ∷ [] }; placed = q.placed + 1 }).placed ≤ q.placed + 1
    by_test true = omega arith
    by_test false = omega arith
placed_once (Take pass ws) q = omega arith

-- no more were placed than there are entries
placed_runs : (s : RingState) (es : List RingEntry) (t : RingState) → Runs IsRingStep s es t → s.queue.placed ≤ s.entries → t.queue.placed ≤ t.entries
placed_runs s [] t runs low =
    let a = ap (λ (x : RingState). x.queue.placed) runs in
    let b = ap (λ (x : RingState). x.entries) runs in
    omega arith
placed_runs s (e ∷ es) t (m, step, more) low =
    placed_runs m es t more (let a = ap (λ (q : RingQueue). q.placed) step.1 in let b = placed_once e s.queue in let d = step.3 in omega arith)

-- ---- of a view

module _ (v : Seen) (right : IsRight v) where
  runs_empty : Runs IsRingStep empty_ring v.seen right.1
  runs_empty = subst (λ (o : RingState). Runs IsRingStep o v.seen right.1) right.3 right.5

  pub history_is : IsRingHistory v.seen
  history_is = (right.1, runs_empty)

  pub low_seen : length v.seen ≤ 2 ^ 40
  low_seen = (bounded right.0 right.1 v.seen right.3 right.5).0

  module _ (s : RingState) (now : v.now ≡ Some s) where
    same : right.1 ≡ s
    same = some_is right.1 s (sym right.4 ∙ now)

    pub queue_now : s.queue ≡ queue_after v.seen
    queue_now = ap (λ (x : RingState). x.queue) (sym same) ∙ queue_runs empty_ring v.seen right.1 runs_empty

    pub entries_now : s.entries ≡ length v.seen
    entries_now =
        let a = entries_counted empty_ring v.seen right.1 runs_empty in
        let b = ap (λ (x : RingState). x.entries) same in
        omega arith

    pub placed_now : s.queue.placed ≤ length v.seen
    placed_now =
        let a = placed_runs empty_ring v.seen right.1 runs_empty (omega arith) in
        let b = ap (λ (x : RingState). x.entries) same in
        let d = ap (λ (x : RingState). x.queue.placed) same in
        let e = entries_now in
        omega arith

-- the queue in hand is the one of the state
pub queue_is : (v : Seen) (s : RingState) (q : RingQueue) → HoldsQueue v → v.now ≡ Some s → held_at 0 v.held ≡ Some q → s.queue ≡ q
queue_is v s q holds now held = some_is s.queue q (subst (λ o. IfSome o (λ (t : RingState). slice_get (t.queue ∷ []) 0 ≡ Some q)) now (holds 0 q held))

-- ---- an exchange of the front

if_all : {A : Type 0} (P : A → Type 0) (o : Option A) → ((a : A) → P a) → IfSome o P
if_all P None all = tt
if_all P (Some a) all = all a

pub not_published : (o : Option RingEntry) → IfSome o (λ e. false ≡ false)
not_published o = if_all (λ e. false ≡ false) o (λ e. refl)

module _ (v : Seen) (had : Front) (right : IsRight v) (holds : HoldsQueue v) (held : is_some (held_at 0 v.held) ≡ true) where
  answers_now : (e : RingEntry) → MayEnter e v → (s : RingState) → v.now ≡ Some s → Answers e s.queue
  answers_now e may s now =
      let (q, there) = has (held_at 0 v.held) held in
      subst (Answers e) (sym (queue_is v s q holds now there)) (may.answers q there)

  pub leads_on : (o : Option RingEntry) → had.length < 2 ^ 40 → IfSome o (λ e. MayEnter e v) → IfSome o (λ e. LeadsOn IsRingStep had v e)
  leads_on None low may = tt
  leads_on (Some e) low may = λ s at.
      let counted = entries_now v right s at.1 in
      let there = at.0 in
      (record { queue = queue_next e s.queue; entries = s.entries + 1 }, (answers_now e may s at.1, refl, omega arith, refl))

  pub callers : (o : Option RingEntry) → IfSome o (λ e. MayEnter e v) → IfSome o (λ e. v.caller ≡ Some (pass_of e))
  callers None may = tt
  callers (Some e) may = may.caller

  pub reaches : (o : Option RingEntry) → IfSome o (λ e. HoldsReach (λ (s : RingState) (e : RingEntry). is_queue) had v e)
  reaches o = if_all (λ e. HoldsReach (λ (s : RingState) (e : RingEntry). is_queue) had v e) o (λ e s at p here. (let zero_is : p ≡ 0 = grind arith in subst (λ k. is_some (held_at k v.held) ≡ true) (sym zero_is) held))

  -- an exchange that was won
  pub has_entered : (w : Seen) (o : Option RingEntry) (r : Result ℕ Front) → IsRight w → HoldsQueue w → is_some (held_at 0 w.held) ≡ true → had.length < 2 ^ 40 → IfSome o (λ e. MayEnter e v)
      → IfOk r (λ at. (at ≡ had.length) × (at ≡ length v.seen))
      → IfOk r (λ at. IfSome o (λ e. w.seen ≡ v.seen ++ e ∷ []))
      → IfOk r (λ at. IfSome o (λ e. (s t : RingState) → v.now ≡ Some s → w.now ≡ Some t → IsRingStep s e t))
      → IfOk r (λ at. IfSome o (λ e. HasEntered e v w))
  has_entered w None (Ok at) right' holds' held' low may place seen follows = tt
  has_entered w o (Err f) right' holds' held' low may place seen follows = tt
  has_entered w (Some e) (Ok at) right' holds' held' low may place seen follows = record {
    seen = seen;
    answers = subst (Answers e) (queue_now v right right.1 right.4) (answers_now e may right.1 right.4);
    count = λ q there.
        let a = placed_now v right right.1 right.4 in
        let b = ap (λ (x : RingQueue). x.placed) (queue_is v right.1 q holds right.4 there) in
        let d = place.0 in
        let f = place.1 in
        omega arith;
    next = λ q there.
        let (y, here) = has (held_at 0 w.held) held' in
        let step = follows right.1 right'.1 right.4 right'.4 in
        here ∙ ap (λ (x : RingQueue). Some x) (sym (queue_is w right'.1 y holds' right'.4 here) ∙ step.1 ∙ ap (queue_next e) (queue_is v right.1 q holds right.4 there));
  }

-- ---- an entry that is named

pub may_named : (v : Seen) (o : Option RingEntry) (e : RingEntry) → o ≡ Some e → MayEnter e v → IfSome o (λ x. MayEnter x v)
may_named v o e named may = subst (λ n. IfSome n (λ x. MayEnter x v)) (sym named) may

pub entered_named : (v w : Seen) (o : Option RingEntry) (e : RingEntry) (r : Result ℕ Front) → o ≡ Some e → IfOk r (λ at. IfSome o (λ x. HasEntered x v w)) → IfOk r (λ at. HasEntered e v w)
entered_named v w o e r named has = subst (λ n. IfOk r (λ at. IfSome n (λ x. HasEntered x v w))) named has
