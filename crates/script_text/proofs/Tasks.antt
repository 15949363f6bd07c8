-- The places of a seat lead to what its lines ask.
use Rattle.std.proofs.Common.{◌≡◌, ℕ, ◌+◌, ◌<◌, ◌≤◌, Bool, true, false, cond, nat_eq, List, [], ◌∷◌, ◌++◌, length, map, filter, drop, drop-cons, slice_get, refl, ap, sym, ◌∙◌, append_assoc, add-one, length-drop, inl, inr, if◌then◌else◌, option_map, Some, None, arith}
use Rattle.std.specs.declared.option.Option.{Option}
use Rattle.std.proofs.lemmas.List.{length-map, nil_from_length}
use Rattle.std.proofs.Math.Seq.{get_or-append_seam}
use Rattle.std.proofs.lemmas.Option.{slice_get-map, slice_get_cases, slice_get_within, slice_get-get_or, get_or_from_slice_get}
use Rattle.irq_base.specs.declared.call.Caller.{Caller}
use Rattle.script_text.specs.declared.task.Task.{Task}
use Rattle.script_text.specs.declared.task.ActorLine.{ActorLine}
use Rattle.script_text.specs.Asks.{same_caller, tasks_of}
use Rattle.script_text.specs.Index.{seat_of, places_from, places_in, IsIndexed}
use Rattle.script_text.proofs.Indexes.{placed, places-first, places-none, same-seat}

abbrev pub tasks_in : List ActorLine → List Task
tasks_in lines = map (λ line. line.task) lines

pub tasks-first : (who : Caller) (x : ActorLine) (lines : List ActorLine) →
    tasks_of who (x ∷ lines) ≡ (if same_caller x.caller who then x.task ∷ tasks_of who lines else tasks_of who lines)
unfolding tasks_of
tasks-first who x lines = go (same_caller x.caller who) (filter (λ line. same_caller line.caller who) lines)
  where
    go : (b : Bool) (ls : List ActorLine) → tasks_in (cond b (x ∷ ls) ls) ≡ (if b then x.task ∷ tasks_in ls else tasks_in ls)
    go true ls = refl
    go false ls = refl

pub tasks-none : (who : Caller) → tasks_of who [] ≡ []
unfolding tasks_of
tasks-none who = refl

at-seam : (pre rest : List ActorLine) (x : ActorLine) → slice_get (tasks_in (pre ++ x ∷ rest)) (length pre) ≡ Some x.task
at-seam pre rest x =
    let whole = pre ++ x ∷ rest in
    slice_get-map (λ line. line.task) whole (length pre)
    ∙ ap (option_map (λ (line : ActorLine). line.task)) (slice_get-get_or whole (length pre) x (below pre) ∙ ap Some (get_or-append_seam pre x rest x))
  where
    below : (pre : List ActorLine) → length pre < length (pre ++ x ∷ rest)
    below [] = omega arith
    below (p ∷ pre) = omega (arith, below pre)

length-more : (pre : List ActorLine) (x : ActorLine) → length (pre ++ x ∷ []) ≡ length pre + 1
length-more [] x = refl
length-more (p ∷ pre) x = omega (arith, length-more pre x)

one-more : (f : ℕ → Option Task) (b : Bool) (n : ℕ) (t : Task) (places : List ℕ) (tasks : List Task) → f n ≡ Some t → map f places ≡ map (λ t. Some t) tasks →
    map f (placed b n places) ≡ map (λ t. Some t) (if b then t ∷ tasks else tasks)
one-more f true n t places tasks is more = λ i. is i ∷ more i
one-more f false n t places tasks is more = more

-- at each place of the seat stands what the line there asks
places-lead : (who : Caller) (pre rest : List ActorLine) →
    map (slice_get (tasks_in (pre ++ rest))) (places_from (length pre) (seat_of who) rest) ≡ map (λ t. Some t) (tasks_of who rest)
places-lead who pre [] =
    ap (map (slice_get (tasks_in (pre ++ [])))) (places-none (length pre) (seat_of who)) ∙ ap (map (λ t. Some t)) (sym (tasks-none who))
places-lead who pre (x ∷ rest) =
    let f = slice_get (tasks_in (pre ++ x ∷ rest)) in
    let n = length pre in
    let s = seat_of who in
    let later : map f (places_from (n + 1) s rest) ≡ map (λ t. Some t) (tasks_of who rest) =
    (λ i. map (slice_get (tasks_in (sym (append_assoc pre (x ∷ []) rest) i))) (places_from (sym (length-more pre x) i) s rest)) ∙ places-lead who (pre ++ x ∷ []) rest in
    ap (map f) (places-first n s x rest)
    ∙ one-more f (nat_eq (seat_of x.caller) s) n x.task (places_from (n + 1) s rest) (tasks_of who rest) (at-seam pre rest x) later
    ∙ ap (λ b. map (λ t. Some t) (if b then x.task ∷ tasks_of who rest else tasks_of who rest)) (sym (same-seat x.caller who))
    ∙ ap (map (λ t. Some t)) (sym (tasks-first who x rest))

as-many : (who : Caller) (lines : List ActorLine) → length (places_from 0 (seat_of who) lines) ≡ length (tasks_of who lines)
as-many who lines =
    sym (length-map (places_from 0 (seat_of who) lines) (slice_get (tasks_in lines))) ∙ ap length (places-lead who [] lines)
    ∙ length-map (tasks_of who lines) (λ t. Some t)

inner : {A : Type 0} (a o : Option A) → Some a ≡ option_map (λ x. Some x) o → a ≡ o
inner a None h = absurd (cc)
inner a (Some t) h = cc

-- what a place leads to is what the actor's line asks
pub task-at : (who : Caller) (lines : List ActorLine) (k p : ℕ) → Some p ≡ slice_get (places_from 0 (seat_of who) lines) k →
    slice_get (tasks_in lines) p ≡ slice_get (tasks_of who lines) k
task-at who lines k p is =
    let f = slice_get (tasks_in lines) in
    inner (f p) (slice_get (tasks_of who lines) k)
    (ap (option_map f) is ∙ sym (slice_get-map f (places_from 0 (seat_of who) lines) k) ∙ ap (λ os. slice_get os k) (places-lead who [] lines)
    ∙ slice_get-map (λ t. Some t) (tasks_of who lines) k)

past-none : {A : Type 0} (xs : List A) (k : ℕ) → None ≡ slice_get xs k → length xs ≤ k
past-none xs k h = elim (slice_get_cases xs k).1 [ inl w ↦ absurd (none-some (h ∙ w.2)) | inr w ↦ w.0 ]
  where
    none-some : {B : Type 0} {x : B} → None ≡ Some x → ⊥
    none-some e = cc

pub no-task : (who : Caller) (lines : List ActorLine) (k : ℕ) → None ≡ slice_get (places_from 0 (seat_of who) lines) k → drop k (tasks_of who lines) ≡ []
no-task who lines k none =
    let past = past-none (places_from 0 (seat_of who) lines) k none in
    nil_from_length (drop k (tasks_of who lines)) (length-drop k (tasks_of who lines) ∙ omega (arith, past, as-many who lines))

drop-at : {A : Type 0} (xs : List A) (k : ℕ) (x : A) → slice_get xs k ≡ Some x → drop k xs ≡ x ∷ drop (k + 1) xs
drop-at xs k x h =
    drop-cons xs k x (slice_get_within xs k x h) ∙ (λ i. get_or_from_slice_get xs k x x h i ∷ drop ((sym (add-one k)) i) xs)

-- the place is one of the lines
pub place-within : (who : Caller) (lines : List ActorLine) (k p : ℕ) → Some p ≡ slice_get (places_from 0 (seat_of who) lines) k → p < length lines
place-within who lines k p is =
    let tasks = tasks_of who lines in
    let below : k < length tasks = omega (arith, as-many who lines, slice_get_within (places_from 0 (seat_of who) lines) k p (sym is)) in
    elim (slice_get_cases tasks k).1 [
      | inl w ↦
          let within = slice_get_within (tasks_in lines) p w.0 (task-at who lines k p is ∙ w.2) in
          omega (arith, within, length-map lines (λ (line : ActorLine). line.task))
      | inr w ↦ absurd (omega (arith, below, w.0))
    ]

pub some-task : (who : Caller) (lines : List ActorLine) (k p : ℕ) (t : Task) → Some p ≡ slice_get (places_from 0 (seat_of who) lines) k →
    slice_get (tasks_in lines) p ≡ Some t → drop k (tasks_of who lines) ≡ t ∷ drop (k + 1) (tasks_of who lines)
some-task who lines k p t is at = drop-at (tasks_of who lines) k t (sym (task-at who lines k p is) ∙ at)

-- the index leads to what the k-th line of a caller asks
pub indexed-at : (lines : List ActorLine) (actors : List Caller) (seats seen : List (List ℕ)) (who : Caller) (seat k : ℕ) (o : Option ℕ) →
    IsIndexed lines actors seats → seen ≡ seats → seat ≡ seat_of who → o ≡ slice_get (places_in seen seat) k → o ≡ slice_get (places_from 0 (seat_of who) lines) k
indexed-at lines actors seats seen who seat k o indexed seen-is seat-is is =
    is ∙ (λ i. slice_get (places_in (seen-is i) (seat-is i)) k) ∙ ap (λ ps. slice_get ps k) (indexed.places (seat_of who))
