-- One row more of a list that fills words and pins.
use Rattle.std.proofs.Common.{◌≡◌, ℕ, ◌+◌, ◌<◌, ◌≤◌, suc, true, false, List, [], ◌∷◌, ◌++◌, length, get_or, set, take, drop, Some, None, refl, sym, ap, subst, ◌∙◌, add-one, IsTrue}
use Rattle.std.proofs.Math.Seq.{take-suc, drop-cons}
use Rattle.std.proofs.Math.ListN.{drop_of_length-le}
use Rattle.std.proofs.lemmas.Option.{get_or_from_slice_get}
use Rattle.std.specs.List.{slice_get}
use Rattle.irq_base.specs.Refusals.{Reason, first_of}
use Rattle.irq_base.specs.declared.call.Row.{Row}
use Rattle.irq_base.specs.declared.refusal.Refusal.{Refusal}
use Rattle.route_table.specs.Rows.{gsi_in, pic_in, ioapic_in, msi_in, row_reasons, reasons_after}
use Rattle.route_table.proofs.Sound.{kept_of}
use Rattle.route_table.specs.Standing.{with_owner, fits_if, reasons_at, word_with, Stands}
use Rattle.route_table.proofs.StandingLaws.{reasons_are, stands-snoc}

pub first_later : (xs ys : List Reason) → first_of xs ≡ None → first_of (xs ++ ys) ≡ first_of ys
first_later [] ys e = refl
first_later ((true, r) ∷ xs) ys e = cc
first_later ((false, r) ∷ xs) ys e = first_later xs ys e

pub first_now : (xs ys : List Reason) (r : Refusal) → first_of xs ≡ Some r → first_of (xs ++ ys) ≡ Some r
first_now [] ys r e = cc
first_now ((true, q) ∷ xs) ys r e = e
first_now ((false, q) ∷ xs) ys r e = first_now xs ys r e

row_at : (rows : List Row) (k : ℕ) (row : Row) → k < length rows → slice_get rows k ≡ Some row → get_or rows k row ≡ row
row_at rows k row below at = get_or_from_slice_get rows k row row at

-- the row, and those behind it
pub rest_is : (rows : List Row) (k : ℕ) (row : Row) → k < length rows → slice_get rows k ≡ Some row → drop k rows ≡ row ∷ drop (k + 1) rows
rest_is rows k row below at = drop-cons rows k row below ∙ ap (λ x. x ∷ drop (suc k) rows) (row_at rows k row below at) ∙ ap (λ n. row ∷ drop n rows) (sym (add-one k))

-- the rows before it, and it
pub front_is : (rows : List Row) (k : ℕ) (row : Row) → k < length rows → slice_get rows k ≡ Some row → take (k + 1) rows ≡ take k rows ++ row ∷ []
front_is rows k row below at = ap (λ n. take n rows) (add-one k) ∙ take-suc rows k row below ∙ ap (λ x. take k rows ++ x ∷ []) (row_at rows k row below at)

reasons_split : (rows : List Row) (k : ℕ) (row : Row) → k < length rows → slice_get rows k ≡ Some row → reasons_after (take k rows) (drop k rows) ≡ row_reasons (take k rows) row ++ reasons_after (take (k + 1) rows) (drop (k + 1) rows)
unfolding reasons_after
reasons_split rows k row below at = ap (reasons_after (take k rows)) (rest_is rows k row below at) ∙ ap (λ front. row_reasons (take k rows) row ++ reasons_after front (drop (k + 1) rows)) (sym (front_is rows k row below at))

pub stands_more : (words pics ioapics : List ℕ) (rows : List Row) (k : ℕ) (row : Row) → k < length rows → slice_get rows k ≡ Some row → Stands words pics ioapics (take k rows) → first_of (reasons_at words pics ioapics row) ≡ None → IsTrue (fits_if (msi_in row)) → length words ≡ 4096 → length pics ≡ 16 → length ioapics ≡ 24 →
    (v p q : List ℕ) → v ≡ set words (gsi_in row) (word_with words row) → p ≡ with_owner pics (pic_in row) (gsi_in row) → q ≡ with_owner ioapics (ioapic_in row) (gsi_in row) → Stands v p q (take (k + 1) rows)
stands_more words pics ioapics rows k row below at s kept fits long sixteen twenty_four v p q vs ps qs =
    subst (λ (x : List ℕ × List ℕ × List ℕ × List Row). Stands x.0 x.1 x.2 x.3) (λ i. (sym vs i, sym ps i, sym qs i, sym (front_is rows k row below at) i))
    (stands-snoc words pics ioapics (take k rows) row s (kept_of (take k rows) row (ap first_of (reasons_are words pics ioapics (take k rows) row s) ∙ kept)) fits long sixteen twenty_four)

pub reasons_more : (words pics ioapics : List ℕ) (rows : List Row) (k : ℕ) (row : Row) → k < length rows → slice_get rows k ≡ Some row → Stands words pics ioapics (take k rows) → first_of (reasons_at words pics ioapics row) ≡ None →
    first_of (reasons_after (take k rows) (drop k rows)) ≡ first_of (reasons_after (take (k + 1) rows) (drop (k + 1) rows))
reasons_more words pics ioapics rows k row below at s kept =
    ap first_of (reasons_split rows k row below at) ∙ first_later (row_reasons (take k rows) row) (reasons_after (take (k + 1) rows) (drop (k + 1) rows)) (ap first_of (reasons_are words pics ioapics (take k rows) row s) ∙ kept)

pub reasons_now : (words pics ioapics : List ℕ) (rows : List Row) (k : ℕ) (row : Row) (r : Refusal) → k < length rows → slice_get rows k ≡ Some row → Stands words pics ioapics (take k rows) → first_of (reasons_at words pics ioapics row) ≡ Some r →
    first_of (reasons_after (take k rows) (drop k rows)) ≡ Some r
reasons_now words pics ioapics rows k row r below at s refused =
    ap first_of (reasons_split rows k row below at) ∙ first_now (row_reasons (take k rows) row) (reasons_after (take (k + 1) rows) (drop (k + 1) rows)) r (ap first_of (reasons_are words pics ioapics (take k rows) row s) ∙ refused)

-- behind the last row
pub reasons_all : (earlier rows : List Row) (k : ℕ) → length rows ≤ k → first_of (reasons_after earlier (drop k rows)) ≡ None
unfolding reasons_after
reasons_all earlier rows k past = ap (λ rest. first_of (reasons_after earlier rest)) (drop_of_length-le rows past)
