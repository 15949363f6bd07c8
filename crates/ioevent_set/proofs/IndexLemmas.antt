-- What adding, taking out and finding rows are to the index.
use Rattle.std.proofs.Common.{◌≡◌, ◌≢◌, ℕ, ◌+◌, ◌<◌, ◌≤◌, zero, suc, Bool, true, false, cond, ◌&&◌, inl, inr, List, [], ◌∷◌, ◌++◌, length, filter, find, count_by, take, drop, insert, get_or, None, All, refl, sym, ap, subst, ◌∙◌, arith, append_assoc, length-append}
use Rattle.std.specs.List.{list_any}
use Rattle.std.specs.List.Sorted.{IsNonDecreasingBy}
use Rattle.std.proofs.lemmas.Bool.Decides.{nat_tests, eqb_tells}
use Rattle.std.proofs.lemmas.List.{take-append-drop, append-nil, get_or-drop, get_or_default, length-drop}
use Rattle.std.proofs.lemmas.List.Edits.{length-insert}
use Rattle.std.proofs.lemmas.List.Elements.{filter-append}
use Rattle.std.proofs.lemmas.List.Folds.{list_any_at}
use Rattle.std.proofs.lemmas.List.Kept.{AllPairs-filter, IsNonDecreasingBy-filter}
use Rattle.std.proofs.lemmas.List.Quantifiers.{all_pairs_push}
use Rattle.std.proofs.lemmas.List.Sorted.{IsNonDecreasingBy-insert}
use Rattle.std.proofs.lemmas.List.Sums.{sum_by-append, sum_by-take-drop, sum_by-cons, length-filter, count_by-le-length}
use Rattle.irq_base.specs.declared.call.Space.{Space}
use Rattle.ioevent_set.specs.declared.row.IoRow.{IoRow}
use Rattle.ioevent_set.specs.Rows.{do_collide, does_fit}
use Rattle.ioevent_set.specs.Index.{address_of, is_at, IsIndexed}

-- ---- lists under tests

commute : (p q : IoRow → Bool) (xs : List IoRow) → filter p (filter q xs) ≡ filter q (filter p xs)
commute p q [] = refl
commute p q (x ∷ xs) = grind (arith, nat_tests, commute p q xs)

count_filter : (p q : IoRow → Bool) (xs : List IoRow) → length (filter p (filter q xs)) ≡ length (filter (λ x. q x && p x) xs)
count_filter p q [] = refl
count_filter p q (x ∷ xs) = grind (arith, nat_tests, count_filter p q xs)

pub as_many_left : (p q : IoRow → Bool) (xs : List IoRow) → count_by p (filter q xs) ≡ count_by (λ x. q x && p x) xs
as_many_left p q xs = sym (length-filter p (filter q xs)) ∙ count_filter p q xs ∙ length-filter (λ x. q x && p x) xs

pub as_many_added : (p : IoRow → Bool) (xs : List IoRow) (i : ℕ) (y : IoRow) → count_by p (insert xs i y) ≡ count_by p (xs ++ y ∷ [])
as_many_added p xs i y =
    let f : IoRow → ℕ = λ x. cond (p x) 1 0 in
    omega (arith, sum_by-append f (take i xs) (y ∷ drop i xs), sum_by-cons f y (drop i xs), sum_by-append f xs (y ∷ []), sum_by-cons f y [], sum_by-take-drop f xs i)

-- a test that no row passes
none_passes : (p : IoRow → Bool) (rows : List IoRow) → list_any p rows ≡ false → (k : ℕ) (d : IoRow) → k < length rows → p (get_or rows k d) ≡ false
none_passes p rows none k d below = let passes : p (get_or rows k d) ≡ true → list_any p rows ≡ true = list_any_at p rows k d below in grind (arith, passes, none)

-- ---- the rows at an address

none_at : (address : ℕ) (rows : List IoRow) → ((k : ℕ) (d : IoRow) → k < length rows → address < (get_or rows k d).address) → filter (is_at address) rows ≡ []
none_at address [] above = refl
none_at address (row ∷ rows) above =
    let first : address < row.address = above 0 row (omega arith) in
    grind (arith, nat_tests, first, none_at address rows (λ k d below. above (suc k) d (omega (arith, below))))

put_last : (address : ℕ) (row : IoRow) (rows : List IoRow) → ((k : ℕ) (d : IoRow) → k < length rows → row.address < (get_or rows k d).address) → filter (is_at address) (row ∷ rows) ≡ filter (is_at address) rows ++ filter (is_at address) (row ∷ [])
put_last address row rows above =
    elim (eqb_tells row.address address) [
      | inl h ↦ let none : filter (is_at address) rows ≡ [] = none_at address rows (λ k d below. let high : row.address < (get_or rows k d).address = above k d below in omega (arith, h.1, high)) in grind (arith, nat_tests, h.0, none)
      | inr h ↦ let same : filter (is_at address) rows ++ [] ≡ filter (is_at address) rows = append-nil (filter (is_at address) rows) in grind (arith, nat_tests, h.0, same)
    ]

pub same_added : (address i : ℕ) (row : IoRow) (rows : List IoRow) → ((k : ℕ) (d : IoRow) → k < length (drop i rows) → row.address < (get_or (drop i rows) k d).address) → filter (is_at address) (insert rows i row) ≡ filter (is_at address) rows ++ filter (is_at address) (row ∷ [])
same_added address i row rows above =
    filter-append (is_at address) (take i rows) (row ∷ drop i rows)
    ∙ ap (λ rest. filter (is_at address) (take i rows) ++ rest) (put_last address row (drop i rows) above)
    ∙ sym (append_assoc (filter (is_at address) (take i rows)) (filter (is_at address) (drop i rows)) (filter (is_at address) (row ∷ [])))
    ∙ ap (λ all. all ++ filter (is_at address) (row ∷ [])) (sym (filter-append (is_at address) (take i rows) (drop i rows)) ∙ ap (filter (is_at address)) (take-append-drop i rows))

-- ---- the row that a write fits

fits_at : (space : Space) (address len value : ℕ) (rows : List IoRow) → find (does_fit space address len value) (filter (is_at address) rows) ≡ find (does_fit space address len value) rows
fits_at space address len value [] = refl
fits_at space address len value (row ∷ rows) =
    elim (eqb_tells row.address address) [
      | inl h ↦ grind (arith, nat_tests, h.0, fits_at space address len value rows)
      | inr h ↦ grind (arith, nat_tests, h.0, fits_at space address len value rows)
    ]

-- the index finds what the rows do
pub found_same : (space : Space) (address len value : ℕ) (rows by_address : List IoRow) → IsIndexed rows by_address → find (does_fit space address len value) by_address ≡ find (does_fit space address len value) rows
found_same space address len value rows by_address indexed =
    sym (fits_at space address len value by_address) ∙ ap (find (does_fit space address len value)) (indexed.same address) ∙ fits_at space address len value rows

-- no row of another address fits
pub none_fits : (space : Space) (address len value : ℕ) (rows : List IoRow) → ((k : ℕ) (d : IoRow) → k < length rows → (get_or rows k d).address ≢ address) → find (does_fit space address len value) rows ≡ None
none_fits space address len value [] other = refl
none_fits space address len value (row ∷ rows) other =
    let first : row.address ≢ address = other 0 row (omega arith) in
    grind (arith, nat_tests, first, none_fits space address len value rows (λ k d below. other (suc k) d (omega (arith, below))))

-- in order of addresses, from a row of a greater address on no row is at the address
pub past_address : (rows : List IoRow) (j address : ℕ) (e : IoRow) → IsNonDecreasingBy address_of rows → All (λ row. address ≤ address_of row) rows → j < length rows → (get_or rows j e).address ≢ address
    → (k : ℕ) (d : IoRow) → k < length (drop j rows) → (get_or (drop j rows) k d).address ≢ address
past_address rows j address e ordered from inside differs k d below same =
    let here : (get_or rows (j + k) d).address ≡ address = ap address_of (sym (get_or-drop j rows k d)) ∙ same in
    let up : (get_or rows j d).address ≤ (get_or rows (j + k) d).address = ordered j (j + k) d (omega arith) (omega (arith, below, inside, length-drop j rows)) in
    let low : address ≤ (get_or rows j d).address = from j d inside in
    let swap : (get_or rows j d).address ≡ (get_or rows j e).address = ap address_of (get_or_default rows j d e inside) in
    differs (omega (arith, here, up, low, swap))

-- the rows of other addresses in front can be passed over
pub passed_over : (space : Space) (address len value i : ℕ) (rows : List IoRow) → ((k : ℕ) (d : IoRow) → k < i → k < length rows → (get_or rows k d).address ≢ address) → find (does_fit space address len value) rows ≡ find (does_fit space address len value) (drop i rows)
passed_over space address len value zero rows other = refl
passed_over space address len value (suc i) [] other = refl
passed_over space address len value (suc i) (row ∷ rows) other =
    let first : row.address ≢ address = other 0 row (omega arith) (omega arith) in
    grind (arith, nat_tests, first, passed_over space address len value i rows (λ k d before below. other (suc k) d (omega (arith, before)) (omega (arith, below))))

-- ---- the index after a row is added, and after one is taken out

pub indexed-with : (rows by_address : List IoRow) (row : IoRow) (i : ℕ) → IsIndexed rows by_address → length rows < 256 → list_any (λ other. do_collide other row) rows ≡ false → i ≤ length by_address
    → ((k : ℕ) (d : IoRow) → k < i → (get_or by_address k d).address ≤ row.address) → ((k : ℕ) (d : IoRow) → i ≤ k → k < length by_address → row.address < (get_or by_address k d).address)
    → IsIndexed (rows ++ row ∷ []) (insert by_address i row)
indexed-with rows by_address row i indexed free none within before after = record {
  limit = omega (arith, length-append rows (row ∷ []), free);
  long = omega (arith, length-insert by_address i row within, length-append rows (row ∷ []), indexed.long);
  apart = all_pairs_push (λ a b. do_collide a b ≡ false) rows row indexed.apart (none_passes (λ other. do_collide other row) rows none);
  ordered = IsNonDecreasingBy-insert address_of by_address i row indexed.ordered within before (λ k d from below. let above : row.address < (get_or by_address k d).address = after k d from below in omega (arith, above));
  same = λ address. same_added address i row by_address later ∙ ap (λ all. all ++ filter (is_at address) (row ∷ [])) (indexed.same address) ∙ sym (filter-append (is_at address) rows (row ∷ []));
  as_many = λ kind. as_many_added kind by_address i row ∙ sum_by-append (λ x. cond (kind x) 1 0) by_address (row ∷ []) ∙ ap (λ n. n + count_by kind (row ∷ [])) (indexed.as_many kind) ∙ sym (sum_by-append (λ x. cond (kind x) 1 0) rows (row ∷ []));
}
  where
    later : (k : ℕ) (d : IoRow) → k < length (drop i by_address) → row.address < (get_or (drop i by_address) k d).address
    later k d below = subst (λ r. row.address < r.address) (sym (get_or-drop i by_address k d)) (after (i + k) d (omega arith) (omega (arith, below, within, length-drop i by_address)))

pub indexed-without : (rows by_address : List IoRow) (kept : IoRow → Bool) → IsIndexed rows by_address → IsIndexed (filter kept rows) (filter kept by_address)
indexed-without rows by_address kept indexed = record {
  limit = omega (arith, length-filter kept rows, count_by-le-length kept rows, indexed.limit);
  long = length-filter kept by_address ∙ indexed.as_many kept ∙ sym (length-filter kept rows);
  apart = AllPairs-filter (λ a b. do_collide a b ≡ false) kept rows indexed.apart;
  ordered = IsNonDecreasingBy-filter address_of kept by_address indexed.ordered;
  same = λ address. commute (is_at address) kept by_address ∙ ap (filter kept) (indexed.same address) ∙ commute kept (is_at address) rows;
  as_many = λ kind. as_many_left kind kept by_address ∙ indexed.as_many (λ x. kept x && kind x) ∙ sym (as_many_left kind kept rows);
}
