-- What is read of the rows of irqfds.
use Rattle.board_reach.proofs.Basics.{◌≡◌, ℕ, ◌<◌, nat_eq, Bool, true, false, cond, not, ◌&&◌, ◌||◌, if◌then◌else◌, List, [], ◌∷◌, filter, All, refl, sym, ap, ◌∙◌, subst, Some, None, is_some, find, IfSome, AllPairs, list_any, unsigned_Decides, Option, All-head, All-tail, first_of, Busy, RoleClash, Irqfd, of_trigger, has_trigger, resamples, has_resampler, is_named, named_row, without_row, RegistryPart, IrqfdFits, is_trigger, is_signalled, resample_clashes, assign_reasons, is_trigger_in, is_free, if_of}
use Rattle.board_step.proofs.SoundRows.{pairs_head, pairs_tail}

pub some_found : (rows : List Irqfd) (c : ℕ) → is_some (of_trigger rows c) ≡ is_trigger_in rows c
some_found [] c = refl
some_found (row ∷ rows) c = elim (has_trigger c row) as (λ t. is_some (cond t (Some row) (find (has_trigger c) rows)) ≡ (t || list_any (has_trigger c) rows)) [ true ↦ refl | false ↦ some_found rows c ]

pub ruleset trigger_rules = (some_found)

pub free_is : (r : RegistryPart) (trigger : ℕ) (resample : Option ℕ) → is_free r trigger resample ≡ not (is_some (first_of (assign_reasons r trigger resample)))
free_is r trigger resample = by_tests (is_trigger r trigger) (is_signalled r trigger || resample_clashes r trigger resample)
  where
    by_tests : (a c : Bool) → (not a && not c) ≡ not (is_some (first_of ((a, Busy) ∷ (c, RoleClash) ∷ [])))
    by_tests true c = refl
    by_tests false true = refl
    by_tests false false = refl

pub ruleset assign_rules = (free_is)

any_filtered : {X : Type 0} (p g : X → Bool) (xs : List X) → list_any (λ x. g x && p x) xs ≡ list_any p (filter g xs)
any_filtered p g [] = refl
any_filtered p g (x ∷ xs) = elim (g x) as (λ t. ((t && p x) || list_any (λ x. g x && p x) xs) ≡ list_any p (cond t (x ∷ filter g xs) (filter g xs))) [ true ↦ ap (λ t. p x || t) (any_filtered p g xs) | false ↦ any_filtered p g xs ]

pub without_is : (rows : List Irqfd) (trigger gsi of : ℕ) → list_any (λ row. not (is_named trigger gsi row) && resamples of row) rows ≡ has_resampler (without_row rows trigger gsi) of
without_is rows trigger gsi of = any_filtered (resamples of) (λ row. not (is_named trigger gsi row)) rows

pub ruleset without_rules = (without_is)

-- the GSI of a trigger's row is one that there is
pub low_row : (counters : ℕ) (rows : List Irqfd) (c : ℕ) (row : Irqfd) → All (IrqfdFits counters) rows → of_trigger rows c ≡ Some row → row.gsi < 4096
low_row counters [] c row fits e = cc
low_row counters (x ∷ rows) c row fits e = elim (has_trigger c x) as (λ t. cond t (Some x) (find (has_trigger c) rows) ≡ Some row → row.gsi < 4096) [
  | true ↦ λ h. let same : x ≡ row = cc in subst (λ (y : Irqfd). y.gsi < 4096) same (All-head (IrqfdFits counters) x rows fits).gsi
  | false ↦ λ h. low_row counters rows c row (All-tail (IrqfdFits counters) x rows fits) h
] e

pub low_row_if : (counters : ℕ) (rows : List Irqfd) (c : ℕ) (found : Option Irqfd) → All (IrqfdFits counters) rows → found ≡ of_trigger rows c → IfSome found (λ row. row.gsi < 4096)
low_row_if counters rows c None fits is = tt
low_row_if counters rows c (Some row) fits is = low_row counters rows c row fits (sym is)

-- ---- the row of a trigger and a GSI

none_named : (trigger gsi : ℕ) (rows : List Irqfd) → All (λ (other : Irqfd). has_trigger trigger other ≡ false) rows → named_row rows trigger gsi ≡ None
none_named trigger gsi [] none = refl
none_named trigger gsi (x ∷ rows) none =
    ap (λ t. cond (t && nat_eq x.gsi gsi) (Some x) (find (is_named trigger gsi) rows)) (All-head (λ (other : Irqfd). has_trigger trigger other ≡ false) x rows none)
    ∙ none_named trigger gsi rows (All-tail (λ (other : Irqfd). has_trigger trigger other ≡ false) x rows none)

pub named_is : (trigger gsi : ℕ) (rows : List Irqfd) → AllPairs (λ (row other : Irqfd). has_trigger row.trigger other ≡ false) rows → named_row rows trigger gsi ≡ if_of gsi (of_trigger rows trigger)
named_is trigger gsi [] pairs = refl
named_is trigger gsi (x ∷ rows) pairs = by_trigger (nat_eq x.trigger trigger) refl (named_is trigger gsi rows (pairs_tail R x rows pairs))
  where
    R : Irqfd → Irqfd → Type 0
    R row other = has_trigger row.trigger other ≡ false

    here : (t : Bool) → named_row rows trigger gsi ≡ None → cond t (Some x) (named_row rows trigger gsi) ≡ (if t then Some x else None)
    here true none = refl
    here false none = none

    by_trigger : (t : Bool) → nat_eq x.trigger trigger ≡ t → named_row rows trigger gsi ≡ if_of gsi (of_trigger rows trigger)
        → cond (t && nat_eq x.gsi gsi) (Some x) (named_row rows trigger gsi) ≡ if_of gsi (cond t (Some x) (of_trigger rows trigger))
    by_trigger true is rest = here (nat_eq x.gsi gsi) (none_named trigger gsi rows (subst (λ n. All (λ (other : Irqfd). has_trigger n other ≡ false) rows) ((unsigned_Decides x.trigger trigger).0 is) (pairs_head R x rows pairs)))
    by_trigger false is rest = rest
