-- Facts about lists that the steps of the book rest on
use Rattle.std.proofs.Common.{◌≡◌, ◌≢◌, ℕ, zero, suc, ◌+◌, ◌<◌, ◌≤◌, List, [], ◌∷◌, ◌++◌, length, take, Bool, true, false, refl, sym, ap, ◌∙◌, subst, inl, inr, ◌⊎◌, ⊎_elim, arith, append-nil, append_assoc, length-append, cond}
use Rattle.std.proofs.lemmas.List.Elements.{All-nil, All-cons, All-head, All-tail}
use Rattle.std.proofs.lemmas.List.Sums.{sum_by-append, sum_by-cons}
use Rattle.std.specs.Prelude.{Option, Some, None, slice_get, slice_index, slice_index_or, slice_set, unwrap_or, is_some, filter, nat_eq, replicate, All, count_by}
use mathlib.Core.Option.{some, some-injective, some-ne-none}
use lib.ListN.{get_elem?}
use Rattle.turn_book.specs.declared.view.Ended.{Ended}
use Rattle.turn_book.specs.Histories.{Runs, IsPrefix, last_of, is_in, entries_of}
use Rattle.turn_book.specs.Views.{ended_at}

pub some_is : {A : Type 0} (a b : A) → Some a ≡ Some b → a ≡ b
some_is a b h = cc

pub none_not : {A : Type 0} (a : A) → None ≡ Some a → ⊥
none_not a h = cc

pub not_both : (b : Bool) → b ≡ true → b ≡ false → ⊥
not_both b yea nay = let q : true ≡ false = sym yea ∙ nay in cc

pub has : {A : Type 0} (o : Option A) → is_some o ≡ true → (x : A) × (o ≡ Some x)
has None h = absurd (not_both false h refl)
has (Some x) h = (x, refl)

pub not_some : {A : Type 0} (o : Option A) → is_some o ≡ false → o ≡ None
not_some None h = refl
not_some (Some x) h = absurd (not_both true refl h)

-- words and other rows

pub index-other : (ws : List ℕ) (i j x : ℕ) → i ≢ j → slice_index (slice_set ws i x) j ≡ slice_index ws j
index-other [] i j x h = refl
index-other (w ∷ ws) zero zero x h = absurd (h refl)
index-other (w ∷ ws) zero (suc j) x h = refl
index-other (w ∷ ws) (suc i) zero x h = refl
index-other (w ∷ ws) (suc i) (suc j) x h = index-other ws i j x (λ e. h (ap suc e))

pub index-same : (ws : List ℕ) (i x : ℕ) → i < length ws → slice_index (slice_set ws i x) i ≡ x
index-same [] i x h = absurd (omega arith)
index-same (w ∷ ws) zero x h = refl
index-same (w ∷ ws) (suc i) x h = index-same ws i x (omega arith)

pub index-left : (xs ys : List ℕ) (i : ℕ) → i < length xs → slice_index (xs ++ ys) i ≡ slice_index xs i
index-left [] ys i h = absurd (omega arith)
index-left (x ∷ xs) ys zero h = refl
index-left (x ∷ xs) ys (suc i) h = index-left xs ys i (omega arith)

pub index-right : (xs ys : List ℕ) (i j : ℕ) → j ≡ length xs + i → slice_index (xs ++ ys) j ≡ slice_index ys i
index-right [] ys i j e = ap (slice_index ys) (let k : j ≡ i = omega arith in k)
index-right (x ∷ xs) ys i zero e = absurd (omega arith)
index-right (x ∷ xs) ys i (suc j) e = index-right xs ys i j (omega arith)

pub index_is : (xs : List ℕ) (i x : ℕ) → slice_get xs i ≡ Some x → slice_index xs i ≡ x
index_is [] i x h = cc
index_is (y ∷ ys) zero x h = some_is y x h
index_is (y ∷ ys) (suc i) x h = index_is ys i x h

pub index-zeros : (n i : ℕ) → slice_index (replicate n 0) i ≡ 0
index-zeros zero i = refl
index-zeros (suc n) zero = refl
index-zeros (suc n) (suc i) = index-zeros n i

pub set-itself : (ws : List ℕ) (i x : ℕ) → slice_index ws i ≡ x → slice_set ws i x ≡ ws
set-itself [] i x h = refl
set-itself (w ∷ ws) zero x h = ap (λ y. y ∷ ws) (sym h)
set-itself (w ∷ ws) (suc i) x h = ap (λ l. w ∷ l) (set-itself ws i x h)

pub length-set : {A : Type 0} (xs : List A) (i : ℕ) (x : A) → length (slice_set xs i x) ≡ length xs
length-set [] i x = refl
length-set (y ∷ ys) zero x = refl
length-set (y ∷ ys) (suc i) x = ap suc (length-set ys i x)

pub get_here : {A : Type 0} (l : List A) (i : ℕ) (a b : A) → get_elem? l i ≡ some a → get_elem? (slice_set l i b) i ≡ some b
get_here [] i a b e = absurd (some-ne-none a (sym e))
get_here (x ∷ xs) zero a b e = refl
get_here (x ∷ xs) (suc i) a b e = get_here xs i a b e

pub get_last : {A : Type 0} (l : List A) (a b : A) (j : ℕ) → get_elem? (l ++ a ∷ []) j ≡ some b → (get_elem? l j ≡ some b) ⊎ ((j ≡ length l) × (a ≡ b))
get_last [] a b zero e = inr (refl, some-injective a b e)
get_last [] a b (suc j) e = absurd (some-ne-none b (sym e))
get_last (x ∷ xs) a b zero e = inl e
get_last (x ∷ xs) a b (suc j) e = ⊎_elim (λ t. inl t) (λ t. inr (ap suc t.0, t.1)) (get_last xs a b j e)

pub get_within : {A : Type 0} (xs : List A) (i : ℕ) (x : A) → slice_get xs i ≡ Some x → i < length xs
get_within [] i x h = cc
get_within (y ∷ ys) zero x h = omega arith
get_within (y ∷ ys) (suc i) x h = let ih = get_within ys i x h in omega arith

pub get_there : {A : Type 0} (xs : List A) (i : ℕ) → i < length xs → (x : A) × (slice_get xs i ≡ Some x)
get_there [] i h = absurd (omega arith)
get_there (x ∷ xs) zero h = (x, refl)
get_there (x ∷ xs) (suc i) h = get_there xs i (omega arith)

-- a place within one list is within another of the same length
pub get_or_own : {A : Type 0} (xs ys : List A) (p : ℕ) (y : A) → length ys ≡ length xs → slice_get xs p ≡ Some y → slice_get ys p ≡ Some (unwrap_or (slice_get ys p) y)
get_or_own [] ys p y n h = cc
get_or_own (x ∷ xs) [] p y n h = absurd (omega arith)
get_or_own (x ∷ xs) (z ∷ zs) zero y n h = refl
get_or_own (x ∷ xs) (z ∷ zs) (suc p) y n h = get_or_own xs zs p y (omega arith) h

pub same_lists : {A : Type 0} (xs ys : List A) → length xs ≡ length ys → ((p : ℕ) (x : A) → slice_get xs p ≡ Some x → get_elem? ys p ≡ some x) → xs ≡ ys
same_lists [] [] n f = refl
same_lists [] (y ∷ ys) n f = absurd (omega arith)
same_lists (x ∷ xs) [] n f = absurd (omega arith)
same_lists (x ∷ xs) (y ∷ ys) n f = ap (λ z. z ∷ xs) (sym (some-injective y x (f 0 x refl))) ∙ ap (λ l. y ∷ l) (same_lists xs ys (omega arith) (λ p z e. f (suc p) z e))

pub last-snoc : {A : Type 0} (xs : List A) (x : A) → last_of (xs ++ x ∷ []) ≡ Some x
last-snoc [] x = refl
last-snoc (y ∷ []) x = refl
last-snoc (y ∷ z ∷ zs) x = last-snoc (z ∷ zs) x

-- what holds of each member

pub all_more : {A : Type 0} (P Q : A → Type 0) (xs : List A) → ((x : A) → P x → Q x) → All P xs → All Q xs
all_more P Q xs f h k d low = f _ (h k d low)

pub all_two : {A : Type 0} (P Q R : A → Type 0) (xs : List A) → ((x : A) → P x → Q x → R x) → All P xs → All Q xs → All R xs
all_two P Q R xs f h g k d low = f _ (h k d low) (g k d low)

pub last_all : {A : Type 0} (P : A → Type 0) (xs : List A) (x : A) → All P xs → last_of xs ≡ Some x → P x
last_all P [] x h e = absurd (none_not x e)
last_all P (y ∷ []) x h e = subst P (some_is y x e) (All-head P y [] h)
last_all P (y ∷ z ∷ zs) x h e = last_all P (z ∷ zs) x (All-tail P y (z ∷ zs) h) e

-- who has not ended is none of those who have
pub not_among : {E : Type 0} (c : ℕ) (xs : List (Ended E)) → ended_at c xs ≡ None → All (λ x. x.caller ≢ c) xs
not_among c [] h = All-nil _
not_among {E} c (x ∷ xs) h = All-cons (λ (y : Ended E). y.caller ≢ c) x xs (by_test.0) (not_among c xs by_test.1)
  where
    by_test : (x.caller ≢ c) × (ended_at c xs ≡ None)
    by_test = elim (nat_eq x.caller c) as (λ b. nat_eq x.caller c ≡ b → (elim b [ true ↦ Some x.entries | false ↦ ended_at c xs ]) ≡ None → (x.caller ≢ c) × (ended_at c xs ≡ None)) [
      | true ↦ λ t e. absurd (none_not x.entries (sym e))
      | false ↦ λ t e. ((λ same. let no_way : ⊥ = grind arith in no_way), e)
    ] refl h

-- nor has one ended of whom no member says that it has
pub none_among : {E : Type 0} (Q : ℕ → Type 0) (c : ℕ) (xs : List (Ended E)) → All (λ x. Q x.caller) xs → (Q c → ⊥) → ended_at c xs ≡ None
none_among Q c [] h nobody = refl
none_among {E} Q c (x ∷ xs) h nobody = elim (nat_eq x.caller c) as (λ b. nat_eq x.caller c ≡ b → ◌≡◌ {A = Option (List E)} (elim b [ true ↦ Some x.entries | false ↦ ended_at c xs ]) None) [
  | true ↦ λ t. absurd (nobody (subst Q (let same : x.caller ≡ c = grind arith in same) (All-head (λ (y : Ended E). Q y.caller) x xs h)))
  | false ↦ λ t. none_among Q c xs (All-tail (λ (y : Ended E). Q y.caller) x xs h) nobody
] refl

-- of each who ended the list has just the entries with which it ended
pub ended_right : {E : Type 0} (made : List ℕ) (caller : E → ℕ) (history : List E) (xs ys : List (Ended E)) → xs ≡ ys → All (λ x. (is_in x.caller made ≡ true) × (entries_of caller x.caller history ≡ x.entries)) ys → All (λ x. entries_of caller x.caller history ≡ x.entries) xs
ended_right {E} made caller history xs ys same h = subst (All (λ (x : Ended E). entries_of caller x.caller history ≡ x.entries)) (sym same)
    (all_more (λ (x : Ended E). (is_in x.caller made ≡ true) × (entries_of caller x.caller history ≡ x.entries)) (λ (x : Ended E). entries_of caller x.caller history ≡ x.entries) ys (λ x both. both.1) h)

-- one more is counted, or not
pub count-snoc : {A : Type 0} (p : A → Bool) (xs : List A) (x : A) → count_by p (xs ++ x ∷ []) ≡ count_by p xs + cond (p x) 1 0
count-snoc p xs x = sum_by-append (λ y. cond (p y) 1 0) xs (x ∷ []) ∙ (let one = sum_by-cons (λ y. cond (p y) 1 0) x [] in omega arith)

-- beginnings of lists

pub prefix-nil : {A : Type 0} (xs : List A) → IsPrefix xs xs
prefix-nil xs = ([], append-nil xs)

pub prefix-trans : {A : Type 0} (xs ys zs : List A) → IsPrefix xs ys → IsPrefix ys zs → IsPrefix xs zs
prefix-trans xs ys zs (r, e) (s, f) = (r ++ s, sym (append_assoc xs r s) ∙ ap (λ l. l ++ s) e ∙ f)

pub prefix-snoc : {A : Type 0} (xs ys : List A) (y : A) → IsPrefix xs ys → IsPrefix xs (ys ++ y ∷ [])
prefix-snoc xs ys y h = prefix-trans xs ys (ys ++ y ∷ []) h (y ∷ [], refl)

pub prefix-length : {A : Type 0} (xs ys : List A) → IsPrefix xs ys → length xs ≤ length ys
prefix-length xs ys (r, e) = let n = ap length e in let l = length-append xs r in omega arith

pub length_zero : {A : Type 0} (xs : List A) → length xs ≡ 0 → xs ≡ []
length_zero [] h = refl
length_zero (x ∷ xs) h = absurd (omega arith)

pub prefix-whole : {A : Type 0} (xs ys : List A) → IsPrefix xs ys → length ys ≤ length xs → xs ≡ ys
prefix-whole xs ys (rest, e) n =
    let l : length xs + length rest ≡ length ys = sym (length-append xs rest) ∙ ap length e in
    let empty : rest ≡ [] = length_zero rest (omega arith) in
    sym (append-nil xs) ∙ ap (λ r. xs ++ r) (sym empty) ∙ e

-- of two beginnings of one list the longer begins with the shorter
pub prefix-shorter : {A : Type 0} (xs ys zs : List A) → IsPrefix xs zs → IsPrefix ys zs → length xs ≤ length ys → IsPrefix xs ys
prefix-shorter [] ys zs p q h = (ys, refl)
prefix-shorter (x ∷ xs) [] zs p q h = absurd (omega arith)
prefix-shorter (x ∷ xs) (y ∷ ys) [] (r, e) q h = absurd (let n = ap length e in let l = length-append xs r in omega arith)
prefix-shorter {A} (x ∷ xs) (y ∷ ys) (z ∷ zs) (r, e) (s, f) h =
    let same : x ≡ y = ap (head_or x) e ∙ sym (ap (head_or x) f) in
    let (t, g) = prefix-shorter xs ys zs (r, ap tail_of e) (s, ap tail_of f) (omega arith) in
    (t, ap (λ l. x ∷ l) g ∙ ap (λ k. k ∷ ys) same)
  where
    head_or : A → List A → A
    head_or d [] = d
    head_or d (a ∷ l) = a

    tail_of : List A → List A
    tail_of [] = []
    tail_of (a ∷ l) = l

-- the members that pass a test

pub filter-append : {A : Type 0} (p : A → Bool) (xs ys : List A) → filter p (xs ++ ys) ≡ filter p xs ++ filter p ys
filter-append p [] ys = refl
filter-append {A} p (x ∷ xs) ys = elim (p x) as (λ b. cond b (x ∷ filter p (xs ++ ys)) (filter p (xs ++ ys)) ≡ cond b (x ∷ filter p xs) (filter p xs) ++ filter p ys) [
  | true ↦ ap (λ l. x ∷ l) (filter-append p xs ys)
  | false ↦ filter-append p xs ys
]

pub filter-one : {A : Type 0} (p : A → Bool) (x : A) → p x ≡ false → filter p (x ∷ []) ≡ []
filter-one p x h = ap (λ b. cond b (x ∷ []) []) h

left_empty : {A : Type 0} (xs ys : List A) → xs ++ ys ≡ [] → xs ≡ []
left_empty [] ys h = refl
left_empty (x ∷ xs) ys h = absurd (let n = ap length h in let l = length-append (x ∷ xs) ys in omega arith)

right_empty : {A : Type 0} (xs ys : List A) → length (xs ++ ys) ≡ length xs → ys ≡ []
right_empty xs [] h = refl
right_empty xs (y ∷ ys) h = absurd (let l = length-append xs (y ∷ ys) in omega arith)

-- where none of a list passes, none of its beginning does
pub filter-none : {A : Type 0} (p : A → Bool) (xs ys : List A) → IsPrefix xs ys → filter p ys ≡ [] → filter p xs ≡ []
filter-none p xs ys (r, e) h = left_empty (filter p xs) (filter p r) (sym (filter-append p xs r) ∙ ap (filter p) e ∙ h)

-- where a list and its beginning have the same that pass, so has a list between them
pub filter-between : {A : Type 0} (p : A → Bool) (xs ys zs : List A) → IsPrefix xs ys → IsPrefix ys zs → filter p zs ≡ filter p xs → filter p zs ≡ filter p ys
filter-between p xs ys zs (r, e) (s, f) same =
    let a : filter p ys ≡ filter p xs ++ filter p r = sym (ap (filter p) e) ∙ filter-append p xs r in
    let b : filter p zs ≡ filter p ys ++ filter p s = sym (ap (filter p) f) ∙ filter-append p ys s in
    let na : length (filter p ys) ≡ length (filter p xs) + length (filter p r) = ap length a ∙ length-append (filter p xs) (filter p r) in
    let nb : length (filter p zs) ≡ length (filter p ys) + length (filter p s) = ap length b ∙ length-append (filter p ys) (filter p s) in
    let nc : length (filter p zs) ≡ length (filter p xs) = ap length same in
    let empty : filter p s ≡ [] = right_empty (filter p ys) (filter p s) (sym (ap length b) ∙ (let n : length (filter p zs) ≡ length (filter p ys) = omega arith in n)) in
    b ∙ ap (λ l. filter p ys ++ l) empty ∙ append-nil (filter p ys)

-- lists of numbers

pub in_more : (c d : ℕ) (m : List ℕ) → is_in d m ≡ true → is_in d (c ∷ m) ≡ true
in_more c d m h = elim (nat_eq c d) as (λ b. (elim b [ true ↦ true | false ↦ is_in d m ]) ≡ true) [ true ↦ refl | false ↦ h ]

pub in_less : (c d : ℕ) (m : List ℕ) → is_in d (c ∷ m) ≡ false → (is_in d m ≡ false) × (nat_eq c d ≡ false)
in_less c d m h = elim (nat_eq c d) as (λ b. (elim b [ true ↦ true | false ↦ is_in d m ]) ≡ false → (is_in d m ≡ false) × (b ≡ false)) [ true ↦ λ e. absurd (let q : true ≡ false = e in cc) | false ↦ λ e. (e, refl) ] h

pub in_first : (c : ℕ) (m : List ℕ) → is_in c (c ∷ m) ≡ true
in_first c m = let t : nat_eq c c ≡ true = grind arith in ap (λ b. elim b [ true ↦ true | false ↦ is_in c m ]) t

-- histories

module _ {S E : Type 0} (steps : S → E → S → Type 0) where
  pub runs-snoc : (s : S) (es : List E) (m t : S) (e : E) → Runs steps s es m → steps m e t → Runs steps s (es ++ e ∷ []) t
  runs-snoc s [] m t e r h = (t, subst (λ x. steps x e t) r h, refl)
  runs-snoc s (x ∷ es) m t e (n, first, more) h = (n, first, runs-snoc n es m t e more h)

  -- where an entry leads to one state at most, so does a history
  pub runs-one : ((s : S) (e : E) (t u : S) → steps s e t → steps s e u → t ≡ u) → (s : S) (es : List E) (t u : S) → Runs steps s es t → Runs steps s es u → t ≡ u
  runs-one one s [] t u r q = r ∙ sym q
  runs-one one s (e ∷ es) t u (m, first, more) (n, first', more') =
      runs-one one m es t u more (subst (λ x. Runs steps x es u) (one s e n m first' first) more')

-- the slots of a closed table

pub first_word : (ws : List ℕ) (n : ℕ) → get_elem? ws 0 ≡ some n → slice_index ws 0 ≡ n
first_word [] n h = absurd (some-ne-none n (sym h))
first_word (w ∷ ws) n h = some-injective w n h

pub or_other : {A : Type 0} (l : List A) (i k : ℕ) (a d : A) → i ≢ k → slice_index_or (slice_set l i a) k d ≡ slice_index_or l k d
or_other [] i k a d n = refl
or_other (x ∷ xs) zero zero a d n = absurd (n refl)
or_other (x ∷ xs) zero (suc k) a d n = refl
or_other (x ∷ xs) (suc i) zero a d n = refl
or_other (x ∷ xs) (suc i) (suc k) a d n = or_other xs i k a d (λ e. n (ap suc e))

pub or_same : {A : Type 0} (l : List A) (i : ℕ) (a : A) → slice_index_or (slice_set l i a) i a ≡ a
or_same [] i a = refl
or_same (x ∷ xs) zero a = refl
or_same (x ∷ xs) (suc i) a = or_same xs i a

pub take_more : {A : Type 0} (xs : List A) (i : ℕ) (x : A) → get_elem? xs i ≡ some x → take i xs ++ x ∷ [] ≡ take (suc i) xs
take_more [] i x h = absurd (some-ne-none x (sym h))
take_more (y ∷ ys) zero x h = ap (λ z. z ∷ []) (sym (some-injective y x h))
take_more (y ∷ ys) (suc i) x h = ap (λ l. y ∷ l) (take_more ys i x h)
