-- The laws of a ring's machine
use Rattle.std.proofs.Common.{◌≡◌, ℕ, zero, suc, ◌+◌, ◌≤◌, ◌^◌, List, [], ◌∷◌, length, true, false, refl, sym, ap, ◌∙◌, subst, arith}
use Rattle.std.specs.Prelude.{slice_get, count_by}
use Rattle.turn_book.specs.Histories.{Runs}
use Rattle.turn_book.specs.Laws.{DependsOnReach, IsBounded}
use Rattle.turn_book.proofs.Lists.{some_is}
use Rattle.write_ring.specs.declared.machine.RingEntry.{RingEntry}
use Rattle.write_ring.specs.declared.machine.RingState.{RingState}
use Rattle.write_ring.specs.declared.queue.RingQueue.{RingQueue}
use Rattle.write_ring.specs.Queue.{queue_next, Answers}
use Rattle.write_ring.specs.Ring.{IsEmptyRing, IsRingStep, has_room, is_queue}

pub one_step : (s : RingState) (e : RingEntry) (t u : RingState) → IsRingStep s e t → IsRingStep s e u → t ≡ u
one_step s e t u (a, q, low, n) (a', q', low', n') = λ i. record { queue = (q ∙ sym q') i; entries = (n ∙ sym n') i }

pub count_stays : (s : RingState) (e : RingEntry) (t : RingState) → IsRingStep s e t
    → length (t.queue ∷ []) ≡ length (s.queue ∷ [])
count_stays s e t step = refl

others-stay : (q r : RingQueue) (p : ℕ) → is_queue p ≡ false → slice_get (r ∷ []) p ≡ slice_get (q ∷ []) p
others-stay q r zero h = absurd (let no : true ≡ false = h in cc)
others-stay q r (suc p) h = refl

pub unreached_stays : (s : RingState) (e : RingEntry) (t : RingState) (p : ℕ) → IsRingStep s e t → is_queue p ≡ false
    → slice_get (t.queue ∷ []) p ≡ slice_get (s.queue ∷ []) p
unreached_stays s e t p step h = others-stay s.queue t.queue p h

pub depends_on_reach : DependsOnReach IsEmptyRing IsRingStep (λ (s : RingState). s.queue ∷ []) (λ s. []) (λ s e. is_queue) has_room
depends_on_reach o s u t h k e opens runs runs' (answers, next, low, n) agree room =
    let same : u.queue ≡ s.queue = some_is u.queue s.queue (agree.0 0 refl) in
    let then : queue_next e u.queue ≡ t.queue = ap (queue_next e) same ∙ sym next in (
      (λ p. refl),
      (
        record { queue = queue_next e u.queue; entries = u.entries + 1 },
        (subst (Answers e) (sym same) answers, refl, room, refl),
        λ p here. ap (λ (q : RingQueue). slice_get (q ∷ []) p) then,
      ),
    )

pub words_stay : (s : RingState) (e : RingEntry) (t : RingState) → IsRingStep s e t → false ≡ false → ◌≡◌ {A = List ℕ} [] []
words_stay s e t step kept = refl

pub width_stays : (s : RingState) (e : RingEntry) (t : RingState) → IsRingStep s e t → length {A = ℕ} [] ≡ length {A = ℕ} []
width_stays s e t step = refl

-- the entries of a state are counted, and never more than 2^40
pub entries_counted : (s : RingState) (h : List RingEntry) (t : RingState) → Runs IsRingStep s h t → t.entries ≡ s.entries + length h
entries_counted s [] t runs = (let e = ap (λ (x : RingState). x.entries) runs in omega arith)
entries_counted s (e ∷ es) t (m, step, more) = (let a = step.3 in let b = entries_counted m es t more in omega arith)

low_after : (s : RingState) (h : List RingEntry) (t : RingState) → Runs IsRingStep s h t → s.entries ≤ 2 ^ 40 → t.entries ≤ 2 ^ 40
low_after s [] t runs low = (let e = ap (λ (x : RingState). x.entries) runs in omega arith)
low_after s (e ∷ es) t (m, step, more) low = low_after m es t more (let a = step.2 in let b = step.3 in omega arith)

none_counted : (h : List RingEntry) → count_by (λ e. false) h ≡ 0
none_counted [] = refl
none_counted (e ∷ es) = none_counted es

pub bounded : IsBounded IsEmptyRing IsRingStep (λ e. false)
bounded o t h opens runs =
    let z : o.entries ≡ 0 = ap (λ (x : RingState). x.entries) opens in
    let a = entries_counted o h t runs in
    let b = low_after o h t runs (omega arith) in
    let c = none_counted h in
    (omega arith, omega arith)
