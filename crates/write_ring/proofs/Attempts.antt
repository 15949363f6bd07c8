-- What an attempt comes to, and what tries that follow each other come to
use Rattle.std.proofs.Common.{◌≡◌, ℕ, zero, suc, ◌<◌, ◌≤◌, ◌^◌, ◌||◌, Bool, true, false, List, [], ◌∷◌, ◌++◌, length, refl, sym, ap, ◌∙◌, subst, arith, inl, inr}
use Rattle.std.specs.Prelude.{Some, None, IfSome, IfErr, Ok, Err, is_some, nat_eq, option_map}
use Rattle.std.specs.declared.option.Option.{Option}
use Rattle.std.specs.declared.result.Result.{Result}
use Rattle.turn_book.specs.declared.view.Held.{Held}
use Rattle.turn_book.specs.declared.view.Miss.{Miss}
use Rattle.turn_book.specs.Hands.{held_at, held_without}
use Rattle.turn_book.specs.Histories.{IsPrefix, is_in}
use Rattle.turn_book.specs.Views.{AddsNoneOfOwn}
use Rattle.turn_book.proofs.Handing.{bare_without}
use Rattle.turn_book.proofs.Lists.{has, prefix-trans}
use Rattle.write_ring.specs.declared.machine.RingEntry.{RingEntry}
use Rattle.write_ring.specs.declared.queue.RingQueue.{RingQueue}
use Rattle.write_ring.specs.declared.stop.RingSpent.{RingSpent}
use Rattle.write_ring.specs.declared.stop.RingStop.{RingStop}
use Rattle.write_ring.specs.declared.stop.RingStop.TheVariants.{Busy, Spent}
use Rattle.write_ring.specs.Made.{numbers_of}
use Rattle.write_ring.specs.Ring.{pass_of}
use Rattle.write_ring.specs.Seen.{Seen, entries_by, IsEntered, IsSpent, IsStopped, GaveWay}
use Rattle.write_ring.specs.Standing.{IsRight, HasEntered}
use Rattle.write_ring.proofs.Standing.{low_seen}

-- an exchange that was won, after a look (u) by which the seat (v) learnt nothing of its own
pub entered_on : (v u w : Seen) (e : RingEntry) → v.caller ≡ Some (pass_of e) → IsPrefix v.seen u.seen → AddsNoneOfOwn pass_of v u → HasEntered e u w → IsEntered e v.seen w.seen
entered_on v u w e named seen own entered = record {
  others = u.seen;
  seen = seen;
  own = own (pass_of e) named;
  entered = entered.seen;
  answers = entered.answers;
}

-- a try that was answered, after others
pub entered_behind : (e : ℕ → RingEntry) → ((n : ℕ) → pass_of (e n) ≡ n) → (n m : ℕ) (first before now : List RingEntry) → m ≡ n → IsPrefix first before → entries_by n before ≡ entries_by n first → IsEntered (e m) before now
    → IsEntered (e n) first now
entered_behind e named n m first before now same begins own entered =
    let is : IsEntered (e n) before now = subst (λ k. IsEntered (e k) before now) same entered in
    record {
      others = is.others;
      seen = prefix-trans first before is.others begins is.seen;
      own = is.own ∙ ap (λ k. entries_by k before) (named n) ∙ own ∙ sym (ap (λ k. entries_by k first) (named n));
      entered = is.entered;
      answers = is.answers;
    }

-- a try that was not answered, after others
pub own_behind : (n m : ℕ) (first before now : List RingEntry) → m ≡ n → entries_by n before ≡ entries_by n first → entries_by m now ≡ entries_by m before → entries_by n now ≡ entries_by n first
own_behind n m first before now same own kept = subst (λ k. entries_by k now ≡ entries_by k before) same kept ∙ own

-- a history that is as long as it can be
pub spent_at : (w : Seen) (spent : RingSpent) → IsRight w → spent.at ≡ length w.seen → 2 ^ 40 ≤ spent.at → IsSpent spent w.seen
spent_at w spent right counted high = (let low = low_seen w right in (omega arith, omega arith))

-- ---- an attempt that gave way

pub gave_way : (v u w : Seen) (m : Miss) → u.misses ≡ v.misses → w.misses ≡ u.misses ++ m ∷ [] → GaveWay v w
gave_way v u w m same missed = inr (m, missed ∙ ap (λ l. l ++ m ∷ []) same)

-- why an attempt was not answered, from before it took the turn (v) until it has given it back (x)
pub stopped_along : {A : Type 0} (v u w x : Seen) (r : Result A RingStop) → u.found ≡ v.found → u.misses ≡ v.misses → x.found ≡ w.found → x.misses ≡ w.misses → x.seen ≡ w.seen → IfErr r (λ stop. IsStopped stop u w) → IfErr r (λ stop. IsStopped stop v x)
stopped_along v u w x (Ok a) found misses found' misses' seen is = tt
stopped_along v u w x (Err Busy) found misses found' misses' seen (inl e) = inl (found' ∙ e ∙ ap (λ l. l ++ 0 ∷ []) found)
stopped_along v u w x (Err Busy) found misses found' misses' seen (inr (m, e)) = inr (m, misses' ∙ e ∙ ap (λ l. l ++ m ∷ []) misses)
stopped_along v u w x (Err (Spent spent)) found misses found' misses' seen (long, at) = (ap length seen ∙ long, at)

-- ---- the queue in hand

pub all_in : (P : RingQueue → Type 0) (o h : Option RingQueue) → o ≡ h → ((q : RingQueue) → h ≡ Some q → P q) → IfSome o P
all_in P None h same all = tt
all_in P (Some q) h same all = all q (sym same)

pub one_in : (P : RingQueue → Type 0) (o h : Option RingQueue) (q : RingQueue) → o ≡ h → h ≡ Some q → IfSome o P → P q
one_in P o h q same there holds = subst (λ x. IfSome x P) (same ∙ there) holds

pub mapped_in : (f : RingQueue → RingQueue) (o h k : Option RingQueue) → o ≡ h → is_some h ≡ true → ((q : RingQueue) → h ≡ Some q → k ≡ Some (f q)) → option_map f o ≡ k
mapped_in f o h k same held next =
    let (q, there) = has h held in
    ap (option_map f) (same ∙ there) ∙ sym (next q there)

-- the seat holds nothing again once it has given the queue back
pub bare_again : (hs us ws : List (Held RingQueue)) → hs ≡ [] → ((q : ℕ) → is_some (held_at q us) ≡ (nat_eq 0 q || is_some (held_at q hs))) → ((q : ℕ) → is_some (held_at q ws) ≡ is_some (held_at q us)) → held_without 0 ws ≡ []
bare_again hs us ws bare got kept =
    bare_without ws 0 (λ q other. kept q ∙ got q ∙ ap (λ b. b || is_some (held_at q hs)) other ∙ ap (λ l. is_some (held_at q l)) bare)

-- ---- the numbers of passes

pub not_made : (passes n : ℕ) → passes ≤ n → is_in n (numbers_of passes) ≡ false
not_made zero n low = refl
not_made (suc k) n low =
    let other : nat_eq k n ≡ false = grind arith in
    ap (λ b. elim b [ true ↦ true | false ↦ is_in n (numbers_of k) ]) other ∙ not_made k n (omega arith)
