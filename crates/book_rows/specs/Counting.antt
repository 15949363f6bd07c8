-- A row of counters: what a change does, and the laws of the machine
use Rattle.std.proofs.Common.{◌≡◌, ℕ, zero, suc, ◌+◌, ◌-◌, ◌<◌, ◌≤◌, ◌^◌, List, [], ◌∷◌, length, Bool, true, false, refl, sym, ap, ◌∙◌, subst, arith, ◌||◌}
use Rattle.std.specs.Prelude.{Option, Some, None, slice_get, slice_set, nat_eq, count_by}
use Rattle.turn_book.specs.Histories.{Runs}
use Rattle.turn_book.specs.Laws.{DependsOnReach, IsBounded}
use Rattle.turn_book.proofs.Lists.{some_is, length-set}
use Rattle.book_rows.specs.declared.machine.Change.{Change}
use Rattle.book_rows.specs.declared.machine.Change.TheVariants.{Add, Move}
use Rattle.book_rows.specs.declared.machine.Counts.{Counts}

abbrev pub caller_of : Change → ℕ
caller_of (Add c k n) = c
caller_of (Move c a b n) = c

-- the counters that a change depends on and changes
abbrev pub reach_of : Change → ℕ → Bool
reach_of (Add c k n) p = nat_eq k p
reach_of (Move c a b n) p = nat_eq a p || nat_eq b p

-- the counters before and after a change
abbrev pub Changes : Change → List ℕ → List ℕ → Type 0
Changes (Add c k n) xs ys = (x : ℕ) × (slice_get xs k ≡ Some x) × (x + n < 2 ^ 64) × (ys ≡ slice_set xs k (x + n))
Changes (Move c a b n) xs ys = (x : ℕ) × (y : ℕ) × (nat_eq a b ≡ false) × (slice_get xs a ≡ Some x) × (slice_get xs b ≡ Some y) × (n ≤ x) × (y + n < 2 ^ 64) × (ys ≡ slice_set (slice_set xs a (x - n)) b (y + n))

-- there are at most 2^40 changes
abbrev pub has_room : Counts → Change → Type 0
has_room s e = s.changes < 2 ^ 40

abbrev pub Counted : Counts → Change → Counts → Type 0
Counted s e t = Changes e s.counters t.counters × (s.changes < 2 ^ 40) × (t.changes ≡ s.changes + 1)

pub get-other : (xs : List ℕ) (i j x : ℕ) → nat_eq i j ≡ false → slice_get (slice_set xs i x) j ≡ slice_get xs j
get-other [] i j x h = refl
get-other (w ∷ ws) zero zero x h = absurd (let q : true ≡ false = h in cc)
get-other (w ∷ ws) zero (suc j) x h = refl
get-other (w ∷ ws) (suc i) zero x h = refl
get-other (w ∷ ws) (suc i) (suc j) x h = get-other ws i j x (let q : nat_eq i j ≡ false = grind arith in q)

pub get-same : (xs : List ℕ) (i x y : ℕ) → slice_get xs i ≡ Some y → slice_get (slice_set xs i x) i ≡ Some x
get-same [] i x y h = absurd (let q : None ≡ Some y = h in cc)
get-same (w ∷ ws) zero x y h = refl
get-same (w ∷ ws) (suc i) x y h = get-same ws i x y h

changes-one : (e : Change) (xs ys zs : List ℕ) → Changes e xs ys → Changes e xs zs → ys ≡ zs
changes-one (Add c k n) xs ys zs (x, at, _, is) (x', at', _, is') = is ∙ ap (λ v. slice_set xs k (v + n)) (some_is x x' (sym at ∙ at')) ∙ sym is'
changes-one (Move c a b n) xs ys zs (x, y, _, at, bt, _, _, is) (x', y', _, at', bt', _, _, is') =
    is ∙ ap (λ v. slice_set (slice_set xs a (v - n)) b (y + n)) (some_is x x' (sym at ∙ at')) ∙ ap (λ v. slice_set (slice_set xs a (x' - n)) b (v + n)) (some_is y y' (sym bt ∙ bt')) ∙ sym is'

pub one_step : (s : Counts) (e : Change) (t u : Counts) → Counted s e t → Counted s e u → t ≡ u
one_step s e t u (h, _, n) (h', _, n') = λ i. record { counters = changes-one e s.counters t.counters u.counters h h' i; changes = (n ∙ sym n') i }

changes-count : (e : Change) (xs ys : List ℕ) → Changes e xs ys → length ys ≡ length xs
changes-count (Add c k n) xs ys (x, _, _, is) = ap length is ∙ length-set xs k (x + n)
changes-count (Move c a b n) xs ys (x, y, _, _, _, _, _, is) = ap length is ∙ length-set (slice_set xs a (x - n)) b (y + n) ∙ length-set xs a (x - n)

pub count_stays : (s : Counts) (e : Change) (t : Counts) → Counted s e t → length t.counters ≡ length s.counters
count_stays s e t (h, _, _) = changes-count e s.counters t.counters h

or_false : (a b : Bool) → (a || b) ≡ false → (a ≡ false) × (b ≡ false)
or_false true b h = absurd (let q : true ≡ false = h in cc)
or_false false b h = (refl, h)

changes-others : (e : Change) (xs ys : List ℕ) (p : ℕ) → Changes e xs ys → reach_of e p ≡ false → slice_get ys p ≡ slice_get xs p
changes-others (Add c k n) xs ys p (x, _, _, is) h = ap (λ l. slice_get l p) is ∙ get-other xs k p (x + n) h
changes-others (Move c a b n) xs ys p (x, y, _, _, _, _, _, is) h =
    let (ha, hb) = or_false (nat_eq a p) (nat_eq b p) h in
    ap (λ l. slice_get l p) is ∙ get-other (slice_set xs a (x - n)) b p (y + n) hb ∙ get-other xs a p (x - n) ha

pub unreached_stays : (s : Counts) (e : Change) (t : Counts) (p : ℕ) → Counted s e t → reach_of e p ≡ false → slice_get t.counters p ≡ slice_get s.counters p
unreached_stays s e t p (h, _, _) no_reach = changes-others e s.counters t.counters p h no_reach

-- from other counters that agree on the reach, the change is the same there
changes-alike : (e : Change) (xs ys us : List ℕ) → Changes e xs ys → ((p : ℕ) → reach_of e p ≡ true → slice_get us p ≡ slice_get xs p)
    → (vs : List ℕ) × Changes e us vs × ((p : ℕ) → reach_of e p ≡ true → slice_get vs p ≡ slice_get ys p)
changes-alike (Add c k n) xs ys us (x, at, small, is) agree =
    let own : nat_eq k k ≡ true = grind arith in
    let there : slice_get us k ≡ Some x = agree k own ∙ at in (
      slice_set us k (x + n),
      (x, there, small, refl),
      λ p h. (let same : k ≡ p = grind arith in subst (λ q. slice_get (slice_set us k (x + n)) q ≡ slice_get ys q) same (get-same us k (x + n) x there ∙ sym (ap (λ l. slice_get l k) is ∙ get-same xs k (x + n) x at))),
    )
changes-alike (Move c a b n) xs ys us (x, y, apart, at, bt, low, small, is) agree =
    let own_a : (nat_eq a a || nat_eq b a) ≡ true = (let t : nat_eq a a ≡ true = grind arith in ap (λ z. z || nat_eq b a) t) in
    let own_b : (nat_eq a b || nat_eq b b) ≡ true = (let t : nat_eq b b ≡ true = grind arith in ap (λ z. z || nat_eq b b) apart ∙ t) in
    let at' : slice_get us a ≡ Some x = agree a own_a ∙ at in
    let bt' : slice_get us b ≡ Some y = agree b own_b ∙ bt in (
      slice_set (slice_set us a (x - n)) b (y + n),
      (x, y, apart, at', bt', low, small, refl),
      λ p h. both us at' bt' p h ∙ sym (ap (λ l. slice_get l p) is ∙ both xs at bt p h),
    )
  where
    back : nat_eq b a ≡ false
    back = grind arith

    value : ℕ → Option ℕ
    value p = elim (nat_eq b p) [ true ↦ Some (y + n) | false ↦ Some (x - n) ]

    both : (l : List ℕ) → slice_get l a ≡ Some x → slice_get l b ≡ Some y → (p : ℕ) → (nat_eq a p || nat_eq b p) ≡ true → slice_get (slice_set (slice_set l a (x - n)) b (y + n)) p ≡ value p
    both l la lb p h = elim (nat_eq b p) as (λ t. nat_eq b p ≡ t → slice_get (slice_set (slice_set l a (x - n)) b (y + n)) p ≡ elim t [ true ↦ Some (y + n) | false ↦ Some (x - n) ]) [
      | true ↦ λ t. (let same : b ≡ p = grind arith in subst (λ q. slice_get (slice_set (slice_set l a (x - n)) b (y + n)) q ≡ Some (y + n)) same (get-same (slice_set l a (x - n)) b (y + n) y (get-other l a b (x - n) apart ∙ lb)))
      | false ↦ λ t.
          let first : nat_eq a p ≡ true = by_or (nat_eq a p) (nat_eq b p) h t in
          let same : a ≡ p = grind arith in
          get-other (slice_set l a (x - n)) b p (y + n) t ∙ subst (λ q. slice_get (slice_set l a (x - n)) q ≡ Some (x - n)) same (get-same l a (x - n) x la)
    ] refl
      where
        by_or : (s t : Bool) → (s || t) ≡ true → t ≡ false → s ≡ true
        by_or true t h e = refl
        by_or false t h e = absurd (let q : true ≡ false = sym h ∙ e in cc)

pub depends_on_reach : DependsOnReach (λ (s : Counts). s.changes ≡ 0) Counted (λ s. s.counters) (λ s. []) (λ s e. reach_of e) has_room
depends_on_reach o s u t h k e opens runs runs' (change, small, count) agree room =
    let (vs, goes, same) = changes-alike e s.counters t.counters u.counters change agree.0 in
    ((λ p. refl), (record { counters = vs; changes = u.changes + 1 }, (goes, room, refl), same))

pub words_stay : (s : Counts) (e : Change) (t : Counts) → Counted s e t → false ≡ false → ◌≡◌ {A = List ℕ} [] []
words_stay s e t h kept = refl

pub width_stays : (s : Counts) (e : Change) (t : Counts) → Counted s e t → length {A = ℕ} [] ≡ length {A = ℕ} []
width_stays s e t h = refl

-- the changes of a state are counted
pub changes-counted : (s : Counts) (h : List Change) (t : Counts) → Runs Counted s h t → t.changes ≡ s.changes + length h
changes-counted s [] t runs = (let e = ap (λ (x : Counts). x.changes) runs in omega arith)
changes-counted s (e ∷ es) t (m, step, more) = (let a = step.2 in let b = changes-counted m es t more in omega arith)

low_after : (s : Counts) (h : List Change) (t : Counts) → Runs Counted s h t → s.changes ≤ 2 ^ 40 → t.changes ≤ 2 ^ 40
low_after s [] t runs low = (let e = ap (λ (x : Counts). x.changes) runs in omega arith)
low_after s (e ∷ es) t (m, step, more) low = low_after m es t more (let a = step.1 in let b = step.2 in omega arith)

none_counted : (h : List Change) → count_by (λ e. false) h ≡ 0
none_counted [] = refl
none_counted (e ∷ es) = none_counted es

pub bounded : IsBounded (λ (s : Counts). s.changes ≡ 0) Counted (λ e. false)
bounded o t h opens runs =
    let a = changes-counted o h t runs in
    let b = low_after o h t runs (omega arith) in
    let c = none_counted h in
    (omega arith, omega arith)
