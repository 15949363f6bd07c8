-- A list copied item by item.
use Rattle.std.proofs.Common.{◌≡◌, ℕ, ◌+◌, List, [], ◌∷◌, ◌++◌, Some, drop, drop-cons, ap, sym, ◌∙◌, append_assoc, add-one}
use Rattle.std.specs.List.{slice_get}
use Rattle.std.proofs.lemmas.Option.{slice_get_within, get_or_from_slice_get}
use Rattle.irq_base.specs.declared.call.Row.{Row}

pub drop-at : {A : Type 0} (xs : List A) (k : ℕ) (x : A) → slice_get xs k ≡ Some x → drop k xs ≡ x ∷ drop (k + 1) xs
drop-at xs k x h =
    drop-cons xs k x (slice_get_within xs k x h) ∙ (λ i. get_or_from_slice_get xs k x x h i ∷ drop ((sym (add-one k)) i) xs)

pub copy-step : (copy rows : List Row) (k : ℕ) (row : Row) → slice_get rows k ≡ Some row → (copy ++ row ∷ []) ++ drop (k + 1) rows ≡ copy ++ drop k rows
copy-step copy rows k row h = append_assoc copy (row ∷ []) (drop (k + 1) rows) ∙ ap (λ r. copy ++ r) (sym (drop-at rows k row h))

pub ruleset copy_rules = (copy-step)
