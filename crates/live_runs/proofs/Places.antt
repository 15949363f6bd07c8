-- Calls in the order of their places are the history whose entries they are, caller by caller.
use Rattle.std.proofs.Common.{◌≡◌, ℕ, ◌+◌, ◌<◌, ◌≤◌, Bool, true, false, nat_eq, cond, List, [], ◌∷◌, ◌++◌, filter, length, None, Some, refl, sym, ap, ◌∙◌, arith}
use Rattle.std.proofs.lemmas.Bool.Decides.{nat_tests}
use Rattle.std.specs.List.Sorted.{IsNonDecreasingBy}
use Rattle.std.specs.declared.option.Option.{Option}
use Rattle.irq_base.specs.Faces.{PlacedEntry}
use Rattle.irq_base.specs.declared.call.Call.{Call}
use Rattle.irq_base.specs.declared.call.Caller.{Caller}
use Rattle.irq_base.specs.declared.lists.Entry.{Entry}
use Rattle.script_text.specs.Asks.{same_caller}
use Rattle.script_text.specs.Scripts.{Script}
use Rattle.script_merging.specs.Merging.{next_of, Merges}
use Rattle.script_merging.proofs.Callers.{caller_itself, callers_same}
use Rattle.actors.specs.Runs.{at_place, calls_by}
use Rattle.actors.specs.Turns.{entries_in}
use Rattle.actors.proofs.Orders.{RiseFrom, rise_lower, rise_of, ordered_one, filters_swap}
use Rattle.part_board.specs.Facing.{placed_from, own_in}
use Rattle.part_board.specs.Seen.{entries_by}
use Rattle.part_board.proofs.Faces.{own_stays}
use Rattle.live_runs.proofs.Passes.{callers_agree}

-- ---- the places of a history

placed_above : (k j : ℕ) (es : List Entry) → k < j → at_place k (placed_from j es) ≡ []
placed_above k j [] less = refl
placed_above k j (e ∷ es) less =
    ap (λ t. cond t (record { entry = e; at = j } ∷ at_place k (placed_from (j + 1) es)) (at_place k (placed_from (j + 1) es)))
    (let other : nat_eq j k ≡ false = grind (less, arith, nat_tests) in other)
    ∙ placed_above k (j + 1) es (omega (arith, less))

placed_rise : (j : ℕ) (es : List Entry) → RiseFrom j (placed_from j es)
placed_rise j [] = tt
placed_rise j (e ∷ es) = (omega arith, rise_lower (j + 1) j (placed_from (j + 1) es) (omega arith) (placed_rise (j + 1) es))

placed_once : (k j : ℕ) (es : List Entry) → length (at_place k (placed_from j es)) ≤ 1
placed_once k j [] = omega arith
placed_once k j (e ∷ es) = by (placed_once k (j + 1) es) (nat_eq j k) refl
  where
    by : length (at_place k (placed_from (j + 1) es)) ≤ 1 → (t : Bool) → nat_eq j k ≡ t → length (cond t (record { entry = e; at = j } ∷ at_place k (placed_from (j + 1) es)) (at_place k (placed_from (j + 1) es))) ≤ 1
    by rest true is =
        let here : j ≡ k = grind (is, arith, nat_tests) in
        let none = placed_above k (j + 1) es (omega (arith, here)) in
        let many = ap length none in omega (arith, many)
    by rest false is = rest

placed_list : (j : ℕ) (es : List Entry) → entries_in (placed_from j es) ≡ es
placed_list j [] = refl
placed_list j (e ∷ es) = ap (λ l. e ∷ l) (placed_list (j + 1) es)

-- ---- short lists with the same calls of each caller

not_empty : (p : PlacedEntry) (ps : List PlacedEntry) → p ∷ ps ≡ [] → ⊥
not_empty p ps e = cc

first_by : (x : PlacedEntry) (xs : List PlacedEntry) → calls_by x.entry.caller (x ∷ xs) ≡ x ∷ calls_by x.entry.caller xs
first_by x xs = ap (λ t. cond t (x ∷ calls_by x.entry.caller xs) (calls_by x.entry.caller xs)) (caller_itself x.entry.caller)

none_by : (xs : List PlacedEntry) → ((c : Caller) → calls_by c xs ≡ []) → xs ≡ []
none_by [] none = refl
none_by (x ∷ xs) none = absurd (not_empty x (calls_by x.entry.caller xs) (sym (first_by x xs) ∙ none x.entry.caller))

abbrev tail_of : List PlacedEntry → List PlacedEntry
tail_of [] = []
tail_of (p ∷ ps) = ps

head_is : (x y : PlacedEntry) (rest : List PlacedEntry) (t : Bool) → x ∷ rest ≡ cond t (y ∷ []) [] → x ≡ y
head_is x y rest true same = cc
head_is x y rest false same = absurd (not_empty x rest same)

rest_none : (x : PlacedEntry) (rest : List PlacedEntry) (t : Bool) → cond t (x ∷ rest) rest ≡ cond t (x ∷ []) [] → rest ≡ []
rest_none x rest true same = ap tail_of same
rest_none x rest false same = same

one_by : (xs ys : List PlacedEntry) → ((c : Caller) → calls_by c xs ≡ calls_by c ys) → length ys ≤ 1 → xs ≡ ys
one_by xs [] same few = none_by xs same
one_by [] (y ∷ ys) same few = absurd (not_empty y (calls_by y.entry.caller ys) (sym (first_by y ys) ∙ sym (same y.entry.caller)))
one_by (x ∷ xs) (y ∷ []) same few = (λ i. is i ∷ none i)
  where
    is : x ≡ y
    is = head_is x y (calls_by x.entry.caller xs) (same_caller y.entry.caller x.entry.caller) (sym (first_by x xs) ∙ same x.entry.caller)

    none : xs ≡ []
    none = none_by xs (λ c. rest_none x (calls_by c xs) (same_caller x.entry.caller c) (same c ∙ ap (λ z. calls_by c (z ∷ [])) (sym is)))
one_by (x ∷ xs) (y ∷ z ∷ ys) same few = absurd (omega (arith, few))

-- ---- calls that are a history's

-- calls in order, of which each caller has those that it has in a history, at their places there, are the history
pub calls_are : (calls : List PlacedEntry) (es : List Entry) → IsNonDecreasingBy (λ (p : PlacedEntry). p.at) calls
    → ((c : Caller) → calls_by c calls ≡ calls_by c (placed_from 0 es)) → entries_in calls ≡ es
calls_are calls es rising same =
    ap entries_in (ordered_one 0 0 calls (placed_from 0 es) (rise_of 0 calls rising (λ d some. omega arith)) (placed_rise 0 es)
    (λ at. one_by (at_place at calls) (at_place at (placed_from 0 es))
    (λ c. sym (filters_swap (λ (p : PlacedEntry). same_caller p.entry.caller c) at calls) ∙ ap (at_place at) (same c)
    ∙ filters_swap (λ (p : PlacedEntry). same_caller p.entry.caller c) at (placed_from 0 es))
    (placed_once at 0 es)))
    ∙ placed_list 0 es

pub own_is : (who : Caller) (es : List Entry) → own_in who es ≡ calls_by who (placed_from 0 es)
own_is who es i = filter (λ (p : PlacedEntry). callers_agree p.entry.caller who i) (placed_from 0 es)

pub own_none : (who : Caller) (es : List Entry) → entries_by who es ≡ [] → own_in who es ≡ []
own_none who es none = own_stays who [] es (es, refl) none

-- a caller that asks nothing has no calls among those that are asked
pub silent_none : (s : Script) (c : Caller) → ((before : List Entry) → next_of s before c ≡ None) → (before : List Entry) (ps : List PlacedEntry) → Merges s before (entries_in ps) → calls_by c ps ≡ []
silent_none s c silent before [] asked = refl
silent_none s c silent before (p ∷ ps) (first, more) = by (silent_none s c silent (before ++ p.entry ∷ []) ps more) (same_caller p.entry.caller c) refl
  where
    none_some : (o : Option Call) (call : Call) → o ≡ None → o ≡ Some call → ⊥
    none_some o call none some = cc

    by : calls_by c ps ≡ [] → (t : Bool) → same_caller p.entry.caller c ≡ t → cond t (p ∷ calls_by c ps) (calls_by c ps) ≡ []
    by rest true is = absurd (none_some (next_of s before c) p.entry.call (silent before) (ap (next_of s before) (sym (callers_same p.entry.caller c is)) ∙ first))
    by rest false is = rest
