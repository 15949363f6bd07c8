-- Rows and words one after another.
use Rattle.std.proofs.Common.{◌≡◌, ℕ, ◌+◌, List, [], ◌∷◌, ◌++◌, Some, drop, drop-cons, refl, ap, sym, ◌∙◌, append_assoc, add-one}
use Rattle.std.specs.Prelude.{map}
use Rattle.std.specs.List.{slice_get}
use Rattle.std.proofs.lemmas.Option.{slice_get_within, get_or_from_slice_get}
use Rattle.irq_base.specs.declared.call.Row.{Row}
use Rattle.script_text.specs.Spelling.{row_word, spaced}

drop-at : {A : Type 0} (xs : List A) (k : ℕ) (x : A) → slice_get xs k ≡ Some x → drop k xs ≡ x ∷ drop (k + 1) xs
drop-at xs k x h =
    drop-cons xs k x (slice_get_within xs k x h) ∙ (λ i. get_or_from_slice_get xs k x x h i ∷ drop ((sym (add-one k)) i) xs)

pub rows-step : (text : List ℕ) (rs : List Row) (k : ℕ) (r : Row) → slice_get rs k ≡ Some r →
    (text ++ 32 ∷ row_word r) ++ spaced (map row_word (drop (k + 1) rs)) ≡ text ++ spaced (map row_word (drop k rs))
rows-step text rs k r h =
    append_assoc text (32 ∷ row_word r) (spaced (map row_word (drop (k + 1) rs))) ∙ ap (λ s. text ++ spaced (map row_word s)) (sym (drop-at rs k r h))

pub ruleset row_rules = (rows-step)

-- the words of two lists
pub spaced-append : (a b : List (List ℕ)) → spaced (a ++ b) ≡ spaced a ++ spaced b
spaced-append [] b = refl
spaced-append (w ∷ a) b = ap (λ t. 32 ∷ (w ++ t)) (spaced-append a b) ∙ ap (λ t. 32 ∷ t) (sym (append_assoc w (spaced a) (spaced b)))

pub ruleset word_rules = (spaced-append)
