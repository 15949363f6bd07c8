-- The index of a script's lines grows with them.
use Rattle.std.proofs.Common.{◌≡◌, ℕ, ◌+◌, Bool, true, false, not, nat_eq, List, [], ◌∷◌, ◌++◌, length, filter, refl, ap, sym, ◌∙◌, if◌then◌else◌, arith, subst, OnOk, Ok, Err}
use Rattle.std.specs.declared.result.Result.{Result}
use Rattle.irq_base.specs.declared.lists.NoMemory.{NoMemory}
use Rattle.std.proofs.lemmas.List.{append-nil}
use Rattle.std.proofs.lemmas.List.Elements.{filter-append, All-append, All-cons, All-nil}
use Rattle.std.proofs.lemmas.Bool.Decides.{nat_tests}
use Rattle.irq_base.specs.declared.call.Caller.{Caller}
use Rattle.irq_base.specs.declared.call.Caller.TheVariants.{Device, Cpu}
use Rattle.script_text.specs.declared.task.ActorLine.{ActorLine}
use Rattle.script_text.specs.Words.{is_empty}
use Rattle.script_text.specs.Asks.{same_caller, actors_of}
use Rattle.script_text.specs.Index.{seat_of, places_from, places_in, with_place, IsIndexed, IsCounted}

-- callers are the same where their seats are
pub same-seat : (a b : Caller) → same_caller a b ≡ nat_eq (seat_of a) (seat_of b)
same-seat (Device a) (Device b) = grind (arith, nat_tests)
same-seat (Device a) (Cpu b) = grind (arith, nat_tests)
same-seat (Cpu a) (Device b) = grind (arith, nat_tests)
same-seat (Cpu a) (Cpu b) = grind (arith, nat_tests)

-- the places of a line and of those behind it
abbrev pub placed : Bool → ℕ → List ℕ → List ℕ
placed b k places = if b then k ∷ places else places

pub places-first : (k seat : ℕ) (line : ActorLine) (lines : List ActorLine) →
    places_from k seat (line ∷ lines) ≡ placed (nat_eq (seat_of line.caller) seat) k (places_from (k + 1) seat lines)
unfolding places_from
places-first k seat line lines = refl

pub places-none : (k seat : ℕ) → places_from k seat [] ≡ []
unfolding places_from
places-none k seat = refl

-- a place more
abbrev noted : Bool → ℕ → List ℕ → List ℕ
noted b place places = if b then places ++ place ∷ [] else places

placed-noted : (b d : Bool) (k place : ℕ) (places : List ℕ) → placed b k (noted d place places) ≡ noted d place (placed b k places)
placed-noted true true k place places = refl
placed-noted true false k place places = refl
placed-noted false d k place places = refl

noted-first : (b : Bool) (k : ℕ) → placed b k [] ≡ noted b k []
noted-first true k = refl
noted-first false k = refl

pub places-more : (k seat : ℕ) (lines : List ActorLine) (line : ActorLine) →
    places_from k seat (lines ++ line ∷ []) ≡ with_place (seat_of line.caller) (k + length lines) seat (places_from k seat lines)
places-more k seat [] line =
    let b = nat_eq (seat_of line.caller) seat in
    places-first k seat line [] ∙ ap (placed b k) (places-none (k + 1) seat) ∙ noted-first b k
    ∙ ap (λ m. noted b m []) (omega arith) ∙ ap (noted b (k + 0)) (sym (places-none k seat))
places-more k seat (x ∷ lines) line =
    let b = nat_eq (seat_of x.caller) seat in
    let d = nat_eq (seat_of line.caller) seat in
    places-first k seat x (lines ++ line ∷ []) ∙ ap (placed b k) (places-more (k + 1) seat lines line)
    ∙ placed-noted b d k (k + 1 + length lines) (places_from (k + 1) seat lines)
    ∙ ap (λ m. noted d m (placed b k (places_from (k + 1) seat lines))) (omega arith)
    ∙ ap (noted d (k + length (x ∷ lines))) (sym (places-first k seat x lines))

actors-first : (line : ActorLine) (lines : List ActorLine) →
    actors_of (line ∷ lines) ≡ line.caller ∷ filter (λ c. not (same_caller c line.caller)) (actors_of lines)
unfolding actors_of
actors-first line lines = refl

actors-none : actors_of [] ≡ []
unfolding actors_of
actors-none = refl

abbrev enlisted : Bool → Caller → List Caller → List Caller
enlisted is_new c actors = if is_new then actors ++ c ∷ [] else actors

kept-one : (f : Caller → Bool) (c : Caller) (b : Bool) → f c ≡ b → filter f (c ∷ []) ≡ (if b then c ∷ [] else [])
kept-one f c b h = ap (λ b. if b then c ∷ [] else []) h

-- behind an actor the others are those that are not it
behind : (f : Caller → Bool) (is_new same : Bool) (x c : Caller) (cs : List Caller) → f c ≡ not same →
    x ∷ filter f (enlisted is_new c cs) ≡ enlisted (if same then false else is_new) c (x ∷ filter f cs)
behind f true true x c cs h = ap (λ t. x ∷ t) (filter-append f cs (c ∷ []) ∙ ap (λ t. filter f cs ++ t) (kept-one f c false h) ∙ append-nil (filter f cs))
behind f true false x c cs h = ap (λ t. x ∷ t) (filter-append f cs (c ∷ []) ∙ ap (λ t. filter f cs ++ t) (kept-one f c true h))
behind f false true x c cs h = refl
behind f false false x c cs h = refl

empty-placed : (b : Bool) (k : ℕ) (places : List ℕ) → is_empty (placed b k places) ≡ (if b then false else is_empty places)
empty-placed true k places = refl
empty-placed false k places = refl

other-way : (a b : ℕ) → nat_eq a b ≡ nat_eq b a
other-way a b = grind (arith, nat_tests)

-- an actor more, where no line before it has its seat
pub actors-more : (k : ℕ) (lines : List ActorLine) (line : ActorLine) →
    actors_of (lines ++ line ∷ []) ≡ enlisted (is_empty (places_from k (seat_of line.caller) lines)) line.caller (actors_of lines)
actors-more k [] line =
    actors-first line [] ∙ ap (λ cs. line.caller ∷ filter (λ c. not (same_caller c line.caller)) cs) actors-none
    ∙ ap (λ cs. enlisted true line.caller cs) (sym actors-none)
    ∙ ap (λ places. enlisted (is_empty places) line.caller (actors_of [])) (sym (places-none k (seat_of line.caller)))
actors-more k (x ∷ lines) line =
    let s = seat_of line.caller in
    let f = λ (c : Caller). not (same_caller c x.caller) in
    let b = nat_eq (seat_of x.caller) s in
    let places = places_from (k + 1) s lines in
    let apart : f line.caller ≡ not b = ap not (same-seat line.caller x.caller ∙ other-way s (seat_of x.caller)) in
    actors-first x (lines ++ line ∷ []) ∙ ap (λ cs. x.caller ∷ filter f cs) (actors-more (k + 1) lines line)
    ∙ behind f (is_empty places) b x.caller line.caller (actors_of lines) apart
    ∙ ap (λ e. enlisted e line.caller (x.caller ∷ filter f (actors_of lines))) (sym (empty-placed b k places))
    ∙ ap (λ ps. enlisted (is_empty ps) line.caller (x.caller ∷ filter f (actors_of lines))) (sym (places-first k s x lines))
    ∙ ap (λ cs. enlisted (is_empty (places_from k s (x ∷ lines))) line.caller cs) (sym (actors-first x lines))

pub indexed-none : IsIndexed [] [] []
indexed-none = record {
  each = sym actors-none;
  places = λ seat. sym (places-none 0 seat);
  counted = All-nil (λ (line : ActorLine). IsCounted line.task);
}

-- a line more, its actor enlisted and its place noted
pub indexed-more : (lines : List ActorLine) (actors now : List Caller) (seats after : List (List ℕ)) (line : ActorLine) →
    IsIndexed lines actors seats → now ≡ enlisted (is_empty (places_in seats (seat_of line.caller))) line.caller actors →
    ((n : ℕ) → places_in after n ≡ with_place (seat_of line.caller) (length lines) n (places_in seats n)) →
    IsCounted line.task → IsIndexed (lines ++ line ∷ []) now after
indexed-more lines actors now seats after line old is noted counted = record {
  each = is ∙ (λ i. enlisted (is_empty (old.places (seat_of line.caller) i)) line.caller (old.each i)) ∙ sym (actors-more 0 lines line);
  places = λ n.
      noted n ∙ ap (with_place (seat_of line.caller) (length lines) n) (old.places n)
      ∙ ap (λ m. with_place (seat_of line.caller) m n (places_from 0 n lines)) (omega arith) ∙ sym (places-more 0 n lines line);
  counted = All-append (λ (l : ActorLine). IsCounted l.task) lines (line ∷ []) old.counted (All-cons (λ (l : ActorLine). IsCounted l.task) line [] counted (All-nil (λ (l : ActorLine). IsCounted l.task)));
}

-- a line that was put behind the others, or not for want of memory
pub indexed-push : (r : Result (Unit {0}) NoMemory) (lines after : List ActorLine) (actors now : List Caller) (seats noted : List (List ℕ)) (line : ActorLine) →
    OnOk r (after ≡ lines ++ line ∷ []) → now ≡ enlisted (is_empty (places_in seats (seat_of line.caller))) line.caller actors →
    ((n : ℕ) → places_in noted n ≡ with_place (seat_of line.caller) (length lines) n (places_in seats n)) →
    OnOk r (IsCounted line.task → IsIndexed lines actors seats → IsIndexed after now noted)
indexed-push (Ok u) lines after actors now seats noted line is enlisted noting = λ counted old.
    subst (λ ls. IsIndexed ls now noted) (sym is) (indexed-more lines actors now seats noted line old enlisted noting counted)
indexed-push (Err e) lines after actors now seats noted line is enlisted noting = tt

pub indexed-is : (lines : List ActorLine) (actors : List Caller) (seats : List (List ℕ)) → lines ≡ [] → actors ≡ [] → seats ≡ [] → IsIndexed lines actors seats
indexed-is lines actors seats l a s =
    subst (λ xs. IsIndexed xs actors seats) (sym l) (subst (λ xs. IsIndexed [] xs seats) (sym a) (subst (λ xs. IsIndexed [] [] xs) (sym s) indexed-none))
