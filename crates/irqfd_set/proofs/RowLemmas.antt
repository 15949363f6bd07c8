-- What finding and taking out rows are to each other.
use Rattle.std.proofs.Common.{◌≡◌, ◌≢◌, ℕ, ◌+◌, ◌<◌, Bool, true, false, not, cond, nat_eq, if◌then◌else◌, inl, inr, List, [], ◌∷◌, ◌++◌, length, count_by, get_or, set, is_none, is_some, Option, Some, None, refl, sym, ap, ◌∙◌, arith, length-set, length-append}
use Rattle.std.proofs.lemmas.Bool.Decides.{nat_tests, eqb_tells}
use Rattle.std.proofs.lemmas.List.{get_or-set_same, get_or-set_other}
use Rattle.std.proofs.lemmas.List.Folds.{find-append}
use Rattle.std.proofs.lemmas.List.Sums.{sum_by-set}
use Rattle.std.specs.Option.{option_or}
use Rattle.irqfd_set.specs.declared.irqfds.Irqfd.{Irqfd}
use Rattle.irqfd_set.specs.Rows.{has_trigger, is_named, of_trigger, named_row, without_row}
use Rattle.irqfd_set.specs.Index.{AreDistinct, IsIndexed}

-- the row, where it is one of this GSI
abbrev pub of_gsi : ℕ → Option Irqfd → Option Irqfd
of_gsi gsi None = None
of_gsi gsi (Some row) = if nat_eq row.gsi gsi then Some row else None

-- a trigger that no row has is in no named row
pub unnamed : (rows : List Irqfd) (trigger gsi : ℕ) → of_trigger rows trigger ≡ None → named_row rows trigger gsi ≡ None
unnamed [] trigger gsi none = refl
unnamed (row ∷ rows) trigger gsi none = grind (arith, nat_tests, unnamed rows trigger gsi)

-- the named row is the trigger's, where that is of the GSI
pub named_is : (rows : List Irqfd) (trigger gsi : ℕ) → AreDistinct rows → named_row rows trigger gsi ≡ of_gsi gsi (of_trigger rows trigger)
named_is [] trigger gsi distinct = refl
named_is (row ∷ rows) trigger gsi distinct =
    elim (eqb_tells row.trigger trigger) [
      | inl h ↦ grind (arith, nat_tests, h.0, unnamed rows trigger gsi (ap (of_trigger rows) (sym h.1) ∙ distinct.0))
      | inr h ↦ grind (arith, nat_tests, h.0, named_is rows trigger gsi distinct.1)
    ]

-- where no row is named, none is taken out
pub without_none : (rows : List Irqfd) (trigger gsi : ℕ) → named_row rows trigger gsi ≡ None → without_row rows trigger gsi ≡ rows
without_none [] trigger gsi none = refl
without_none (row ∷ rows) trigger gsi none = grind (arith, nat_tests, without_none rows trigger gsi)

-- another trigger keeps its row
pub others_stay : (rows : List Irqfd) (trigger gsi other : ℕ) → other ≢ trigger → of_trigger (without_row rows trigger gsi) other ≡ of_trigger rows other
others_stay [] trigger gsi other apart = refl
others_stay (row ∷ rows) trigger gsi other apart = grind (arith, nat_tests, apart, others_stay rows trigger gsi other apart)

-- a trigger that no row has is no row's after one is taken out
pub still_none : (rows : List Irqfd) (trigger gsi other : ℕ) → of_trigger rows other ≡ None → of_trigger (without_row rows trigger gsi) other ≡ None
still_none [] trigger gsi other none = refl
still_none (row ∷ rows) trigger gsi other none = grind (arith, nat_tests, still_none rows trigger gsi other)

-- the trigger of the row that is taken out has none
pub gone : (rows : List Irqfd) (trigger gsi : ℕ) → AreDistinct rows → is_some (named_row rows trigger gsi) ≡ true → of_trigger (without_row rows trigger gsi) trigger ≡ None
gone [] trigger gsi distinct some = refl
gone (row ∷ rows) trigger gsi distinct some =
    elim (eqb_tells row.trigger trigger) [
      | inl h ↦ let none = ap (of_trigger rows) (sym h.1) ∙ distinct.0 in grind (arith, nat_tests, h.0, still_none rows trigger gsi trigger none, unnamed rows trigger gsi none)
      | inr h ↦ grind (arith, nat_tests, h.0, gone rows trigger gsi distinct.1)
    ]

-- one row is taken out
pub one_fewer : (rows : List Irqfd) (trigger gsi : ℕ) → AreDistinct rows → is_some (named_row rows trigger gsi) ≡ true → length (without_row rows trigger gsi) + 1 ≡ length rows
one_fewer [] trigger gsi distinct some = grind arith
one_fewer (row ∷ rows) trigger gsi distinct some =
    elim (eqb_tells row.trigger trigger) [
      | inl h ↦ let none = ap (of_trigger rows) (sym h.1) ∙ distinct.0 in grind (arith, nat_tests, h.0, without_none rows trigger gsi (unnamed rows trigger gsi none), unnamed rows trigger gsi none)
      | inr h ↦ grind (arith, nat_tests, h.0, one_fewer rows trigger gsi distinct.1)
    ]

-- rows stay distinct when one is taken out
pub distinct-without : (rows : List Irqfd) (trigger gsi : ℕ) → AreDistinct rows → AreDistinct (without_row rows trigger gsi)
distinct-without [] trigger gsi distinct = tt
distinct-without (row ∷ rows) trigger gsi distinct =
    elim (is_named trigger gsi row) as (λ b. AreDistinct (cond (not b) (row ∷ without_row rows trigger gsi) (without_row rows trigger gsi))) [
      | true ↦ distinct-without rows trigger gsi distinct.1
      | false ↦ (still_none rows trigger gsi row.trigger distinct.0, distinct-without rows trigger gsi distinct.1)
    ]

-- rows stay distinct when one of a new trigger is added
pub distinct-with : (rows : List Irqfd) (row : Irqfd) → AreDistinct rows → of_trigger rows row.trigger ≡ None → AreDistinct (rows ++ row ∷ [])
distinct-with [] row distinct none = (refl, tt)
distinct-with (first ∷ rows) row distinct none =
    elim (eqb_tells first.trigger row.trigger) [
      | inl h ↦ grind (arith, nat_tests, h.0, none)
      | inr h ↦ (grind (arith, nat_tests, h.1, find-append (has_trigger first.trigger) rows (row ∷ []), distinct.0), distinct-with rows row distinct.1 (grind (arith, nat_tests, h.0, none)))
    ]

-- ---- what is added to and taken from the rows and their index

filled : (index : List (Option Irqfd)) (place : ℕ) (row : Irqfd) → place < length index → get_or index place None ≡ None → count_by is_none (set index place (Some row)) + 1 ≡ count_by is_none index
filled index place row below empty = omega (arith, sum_by-set (λ x. cond (is_none x) 1 0) index place (Some row) None below, ap {A = Option Irqfd} (λ x. cond {A = ℕ} (is_none x) 1 0) empty)

emptied : (index : List (Option Irqfd)) (place : ℕ) (row : Irqfd) → place < length index → get_or index place None ≡ Some row → count_by is_none (set index place None) ≡ count_by is_none index + 1
emptied index place row below full = omega (arith, sum_by-set (λ x. cond (is_none x) 1 0) index place None None below, ap {A = Option Irqfd} (λ x. cond {A = ℕ} (is_none x) 1 0) full)

-- the place of a trigger, after a row is added at its end
found-with : (rows : List Irqfd) (row : Irqfd) (trigger : ℕ) → of_trigger rows row.trigger ≡ None → of_trigger (rows ++ row ∷ []) trigger ≡ (if nat_eq trigger row.trigger then Some row else of_trigger rows trigger)
found-with rows row trigger none =
    find-append (has_trigger trigger) rows (row ∷ [])
    ∙ elim (eqb_tells trigger row.trigger) [
      | inl h ↦ grind (arith, nat_tests, h.0, ap (of_trigger rows) h.1 ∙ none)
      | inr h ↦ no_more (of_trigger rows trigger) (nat_eq row.trigger trigger) (nat_eq trigger row.trigger) h.0 (grind (arith, nat_tests, h.1))
    ]
  where
    no_more : (first : Option Irqfd) (b d : Bool) → d ≡ false → b ≡ false → option_or first (cond b (Some row) None) ≡ (if d then Some row else first)
    no_more None b d off e = grind arith
    no_more (Some x) b d off e = grind arith

place-set : (index : List (Option Irqfd)) (place other : ℕ) (value : Option Irqfd) → place < length index → get_or (set index place value) other None ≡ (if nat_eq other place then value else get_or index other None)
place-set index place other value below =
    elim (eqb_tells other place) [
      | inl h ↦ ap (λ k. get_or (set index place value) k None) h.1 ∙ get_or-set_same index place value None below ∙ ap (λ b. if b then value else get_or index other None) (sym h.0)
      | inr h ↦ get_or-set_other index place other value None h.1 ∙ ap (λ b. if b then value else get_or index other None) (sym h.0)
    ]

pub indexed-with : (rows : List Irqfd) (index : List (Option Irqfd)) (row : Irqfd) → IsIndexed rows index → row.trigger < 256 → of_trigger rows row.trigger ≡ None → IsIndexed (rows ++ row ∷ []) (set index row.trigger (Some row))
indexed-with rows index row indexed below none = record {
  places = length-set index row.trigger (Some row) ∙ indexed.places;
  sum = omega (arith, length-append rows (row ∷ []), filled index row.trigger row within (indexed.found row.trigger ∙ none), indexed.sum);
  found = λ trigger. place-set index row.trigger trigger (Some row) within
      ∙ ap (λ old. if nat_eq trigger row.trigger then Some row else old) (indexed.found trigger)
      ∙ sym (found-with rows row trigger none);
  distinct = distinct-with rows row indexed.distinct none;
}
  where
    within : row.trigger < length index
    within = omega (arith, below, indexed.places)

pub indexed-without : (rows : List Irqfd) (index : List (Option Irqfd)) (trigger gsi : ℕ) (row : Irqfd) → IsIndexed rows index → trigger < length index → of_trigger rows trigger ≡ Some row → is_some (named_row rows trigger gsi) ≡ true → IsIndexed (without_row rows trigger gsi) (set index trigger None)
indexed-without rows index trigger gsi row indexed within some named = record {
  places = length-set index trigger None ∙ indexed.places;
  sum = omega (arith, one_fewer rows trigger gsi indexed.distinct named, emptied index trigger row within (indexed.found trigger ∙ some), indexed.sum);
  found = λ other. place-set index trigger other None within
      ∙ ap (λ old. if nat_eq other trigger then None else old) (indexed.found other)
      ∙ elim (eqb_tells other trigger) [
        | inl h ↦ ap (λ b. if b then None else of_trigger rows other) h.0 ∙ sym (ap (of_trigger (without_row rows trigger gsi)) h.1 ∙ gone rows trigger gsi indexed.distinct named)
        | inr h ↦ ap (λ b. if b then None else of_trigger rows other) h.0 ∙ sym (others_stay rows trigger gsi other h.1)
      ];
  distinct = distinct-without rows trigger gsi indexed.distinct;
}
