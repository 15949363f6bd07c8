-- The first items of a list and one more, and the item at a place before those that come after it.
use Rattle.board_step.proofs.Basics.{◌≡◌, ℕ, ◌+◌, ◌<◌, List, [], ◌∷◌, ◌++◌, length, get_or, add-one, Some, sym, ap, ◌∙◌, first_items as take, drop, slice_get, take-suc, drop_more, slice_get_within, get_or_from_slice_get}

pub take_more : {A : Type 0} (xs : List A) (k : ℕ) (x : A) → k < length xs → get_or xs k x ≡ x → take (k + 1) xs ≡ take k xs ++ x ∷ []
take_more xs k x below is = ap (λ n. take n xs) (add-one k) ∙ take-suc xs k x below ∙ ap (λ y. take k xs ++ y ∷ []) is

pub take_there : {A : Type 0} (xs : List A) (k : ℕ) (x : A) → slice_get xs k ≡ Some x → take (k + 1) xs ≡ take k xs ++ x ∷ []
take_there xs k x there = take_more xs k x (slice_get_within xs k x there) (get_or_from_slice_get xs k x x there)

pub drop_here : {A : Type 0} (xs : List A) (k next : ℕ) (x : A) → next ≡ k + 1 → slice_get xs k ≡ Some x → drop k xs ≡ x ∷ drop next xs
drop_here xs k next x after there = drop_more xs k x (slice_get_within xs k x there) ∙ (λ i. get_or_from_slice_get xs k x x there i ∷ drop (sym after i) xs)
