-- The value of a counter in hand, before and after a change
use Rattle.std.proofs.Common.{◌≡◌, ℕ, ◌+◌, ◌-◌, ◌<◌, ◌≤◌, ◌^◌, List, [], ◌∷◌, ◌++◌, length, true, false, refl, sym, ap, ◌∙◌, subst, arith, cond}
use Rattle.std.specs.Prelude.{Some, IfSome, is_some, nat_eq, slice_get, slice_set}
use Rattle.turn_book.specs.declared.view.Front.{Front}
use Rattle.turn_book.specs.declared.view.View.{View}
use Rattle.turn_book.specs.Histories.{entries_of}
use Rattle.turn_book.specs.Hands.{held_at}
use Rattle.turn_book.specs.Views.{IsLegal, HoldsRight}
use Rattle.turn_book.specs.Plays.{LeadsOn}
use Rattle.turn_book.proofs.Lists.{some_is, has, filter-append}
use Rattle.book_rows.specs.declared.machine.Change.{Change}
use Rattle.book_rows.specs.declared.machine.Change.TheVariants.{Add, Move}
use Rattle.book_rows.specs.declared.machine.Counts.{Counts}
use Rattle.book_rows.specs.Counting.{Counted, caller_of, changes-counted, get-same, get-other}

abbrev pub Seen : Type 0
Seen = View Counts Change ℕ

abbrev pub HasCount : Seen → Type 0
HasCount v = HoldsRight (λ (s : Counts). s.counters) v

abbrev pub HasLegal : Seen → Type 0
HasLegal v = IsLegal (λ (s : Counts). s.changes ≡ 0) Counted v

-- a counter in hand has the value of the state
pub counter_is : (v : Seen) (s : Counts) (k x : ℕ) → HasCount v → v.now ≡ Some s → held_at k v.held ≡ Some x → slice_get s.counters k ≡ Some x
counter_is v s k x right now held = subst (λ o. IfSome o (λ (t : Counts). slice_get t.counters k ≡ Some x)) now (right k x held)

-- the changes of the state are as many as the list has
pub changes_are : (v : Seen) (s : Counts) → HasLegal v → v.now ≡ Some s → s.changes ≡ length v.seen
changes_are v s (o, t, begin, opens, is, runs) now =
    let a = changes-counted o v.seen t runs in
    let b : t.changes ≡ s.changes = ap (λ (x : Counts). x.changes) (some_is t s (sym is ∙ now)) in
    omega arith

-- a sum that fits can be added to a counter in hand
pub may_add : (v : Seen) (had : Front) (c k n x : ℕ) → HasCount v → HasLegal v → held_at k v.held ≡ Some x → x + n < 2 ^ 64 → had.length < 2 ^ 40 → LeadsOn Counted had v (Add c k n)
may_add v had c k n x right legal held small room s (count, now) =
    let low = changes_are v s legal now in
    (record { counters = slice_set s.counters k (x + n); changes = s.changes + 1 }, ((x, counter_is v s k x right now held, small, refl), omega arith, refl))

-- a counter in hand has the sum, once the change was added
pub sum_is : (v w : Seen) (c k n x : ℕ) → HasCount v → HasLegal v → HasCount w → HasLegal w → held_at k v.held ≡ Some x → is_some (held_at k w.held) ≡ true
    → ((s t : Counts) → v.now ≡ Some s → w.now ≡ Some t → Counted s (Add c k n) t) → held_at k w.held ≡ Some (x + n)
sum_is v w c k n x right legal right' legal' held still follows =
    let (o, s, _, _, now, _) = legal in
    let (o', t, _, _, now', _) = legal' in
    let (x', at, small, is) = (follows s t now now').0 in
    let same : x ≡ x' = some_is x x' (sym (counter_is v s k x right now held) ∙ at) in
    let (y, there) = has (held_at k w.held) still in
    let value : slice_get t.counters k ≡ Some (x' + n) = ap (λ l. slice_get l k) is ∙ get-same s.counters k (x' + n) x' at in
    there ∙ sym (counter_is w t k y right' now' there) ∙ value ∙ ap (λ m. Some (m + n)) (sym same)

-- an entry of its own is the last of a caller's
pub own-snoc : (c : ℕ) (l : List Change) (e : Change) → caller_of e ≡ c → entries_of caller_of c (l ++ e ∷ []) ≡ entries_of caller_of c l ++ e ∷ []
own-snoc c l e is = filter-append (λ x. nat_eq (caller_of x) c) l (e ∷ []) ∙ ap (λ m. entries_of caller_of c l ++ m) (let t : nat_eq (caller_of e) c ≡ true = grind arith in filter-own t)
  where
    filter-own : nat_eq (caller_of e) c ≡ true → entries_of caller_of c (e ∷ []) ≡ e ∷ []
    filter-own t = ap (λ b. cond b (e ∷ []) []) t

-- a number that is there and whose sum fits can be moved from one counter in hand to another
pub may_move : (v : Seen) (had : Front) (c a b n x y : ℕ) → HasCount v → HasLegal v → nat_eq a b ≡ false → held_at a v.held ≡ Some x → held_at b v.held ≡ Some y → n ≤ x → y + n < 2 ^ 64 → had.length < 2 ^ 40
    → LeadsOn Counted had v (Move c a b n)
may_move v had c a b n x y right legal apart held held' low small room s (count, now) =
    let changes = changes_are v s legal now in
    (record { counters = slice_set (slice_set s.counters a (x - n)) b (y + n); changes = s.changes + 1 }, ((x, y, apart, counter_is v s a x right now held, counter_is v s b y right now held', low, small, refl), omega arith, refl))

-- both counters in hand have their values, once the change was moved
pub moved_are : (v w : Seen) (c a b n x y : ℕ) → HasCount v → HasLegal v → HasCount w → HasLegal w → held_at a v.held ≡ Some x → held_at b v.held ≡ Some y → is_some (held_at a w.held) ≡ true → is_some (held_at b w.held) ≡ true
    → ((s t : Counts) → v.now ≡ Some s → w.now ≡ Some t → Counted s (Move c a b n) t) → (held_at a w.held ≡ Some (x - n)) × (held_at b w.held ≡ Some (y + n))
moved_are v w c a b n x y right legal right' legal' held held' still still' follows =
    let (o, s, _, _, now, _) = legal in
    let (o', t, _, _, now', _) = legal' in
    let (x', y', apart, at, bt, _, _, is) = (follows s t now now').0 in
    let same : x ≡ x' = some_is x x' (sym (counter_is v s a x right now held) ∙ at) in
    let same' : y ≡ y' = some_is y y' (sym (counter_is v s b y right now held') ∙ bt) in
    let (z, there) = has (held_at a w.held) still in
    let (z', there') = has (held_at b w.held) still' in
    let back : nat_eq b a ≡ false = grind arith in
    let first = slice_set s.counters a (x' - n) in
    let value : slice_get t.counters a ≡ Some (x' - n) = ap (λ l. slice_get l a) is ∙ get-other first b a (y' + n) back ∙ get-same s.counters a (x' - n) x' at in
    let value' : slice_get t.counters b ≡ Some (y' + n) = ap (λ l. slice_get l b) is ∙ get-same first b (y' + n) y' (get-other s.counters a b (x' - n) apart ∙ bt) in
    (there ∙ sym (counter_is w t a z right' now' there) ∙ value ∙ ap (λ k. Some (k - n)) (sym same), there' ∙ sym (counter_is w t b z' right' now' there') ∙ value' ∙ ap (λ k. Some (k + n)) (sym same'))
