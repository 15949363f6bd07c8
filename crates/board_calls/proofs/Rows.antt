-- Rows of which none goes.
use Rattle.std.proofs.Common.{◌≡◌, ℕ, Bool, true, false, not, if◌then◌else◌, List, [], ◌∷◌, filter, ◌||◌, is_some, true≢false, refl, ◌∙◌, arith, Some, None}
use Rattle.std.specs.declared.option.Option.{Option}
use Rattle.std.specs.List.{find, list_any}
use Rattle.irqfd_set.specs.declared.irqfds.Irqfd.{Irqfd}
use Rattle.irqfd_set.specs.Rows.{is_named, named_row, without_row, has_trigger, of_trigger}

Some_none : {A : Type 0} (x : A) → Some x ≡ None → ⊥
Some_none x e = cc

none_found : {A : Type 0} (p : A → Bool) (xs : List A) → find p xs ≡ None → filter (λ x. not (p x)) xs ≡ xs
none_found p [] e = refl
none_found p (x ∷ xs) e = grind (none_found p xs, arith)

pub none_goes : (rows : List Irqfd) (trigger gsi : ℕ) → named_row rows trigger gsi ≡ None → without_row rows trigger gsi ≡ rows
none_goes rows trigger gsi e = none_found (is_named trigger gsi) rows e

pub ruleset row_rules = (none_goes)

-- the row of a trigger is found where there is one
some_found : {A : Type 0} (p : A → Bool) (xs : List A) → is_some (find p xs) ≡ list_any p xs
some_found p [] = refl
some_found p (x ∷ xs) = elim (p x) as (λ t. is_some (if t then Some x else find p xs) ≡ (t || list_any p xs)) [ true ↦ refl | false ↦ some_found p xs ]

pub trigger_found : (rows : List Irqfd) (trigger : ℕ) → is_some (of_trigger rows trigger) ≡ list_any (has_trigger trigger) rows
trigger_found rows trigger = some_found (has_trigger trigger) rows

none_there : {A : Type 0} (o : Option A) → is_some o ≡ false → o ≡ None
none_there None e = refl
none_there (Some x) e = absurd (true≢false e)

pub trigger_free : (rows : List Irqfd) (trigger : ℕ) → list_any (has_trigger trigger) rows ≡ false → of_trigger rows trigger ≡ None
trigger_free rows trigger e = none_there (of_trigger rows trigger) (trigger_found rows trigger ∙ e)

pub ruleset trigger_rules = (trigger_found, trigger_free)
