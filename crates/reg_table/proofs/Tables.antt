-- The rule of a whole table, from a test of all its rows that the checker computes, holds at each place.
use Rattle.std.proofs.Common.{◌≡◌, ℕ, ◌+◌, ◌<◌, zero, suc, Bool, true, ◌&&◌, List, [], ◌∷◌, length, ap, ◌∙◌, arith}
use Rattle.std.specs.List.{slice_get}
use Rattle.std.specs.Option.{IsSomeAnd}
use Rattle.reg_table.specs.declared.row.RegRow.{RegRow}
use Rattle.reg_table.specs.Rows.{each_passes_from}

both : (a b : Bool) → (a && b) ≡ true → (a ≡ true) × (b ≡ true)
both a b e = grind arith

-- the row at place i, of which P holds, passes the test of its place
passes_from : (test : ℕ → RegRow → Bool) (rows : List RegRow) (k i : ℕ) (P : RegRow → Type 0) → each_passes_from test k rows ≡ true → IsSomeAnd (slice_get rows i) P → (r : RegRow) × (test (k + i) r ≡ true) × P r × (i < length rows)
passes_from test [] k i P passes found = absurd found
passes_from test (r ∷ rows) k zero P passes found = (r, ap (λ n. test n r) (sum_zero k) ∙ (both _ _ passes).0, found, omega arith)
  where
    sum_zero : (k : ℕ) → k + 0 ≡ k
    sum_zero k = omega arith
passes_from test (r ∷ rows) k (suc i) P passes found = later (passes_from test rows (k + 1) i P (both _ _ passes).1 found)
  where
    later : (s : RegRow) × (test (k + 1 + i) s ≡ true) × P s × (i < length rows) → (s : RegRow) × (test (k + suc i) s ≡ true) × P s × (suc i < length (r ∷ rows))
    later (s, on, meets, within) = let place : k + suc i ≡ k + 1 + i = omega arith in (s, ap (λ n. test n s) place ∙ on, meets, omega (arith, within))

pub passes_at : (test : ℕ → RegRow → Bool) (rows : List RegRow) (i : ℕ) (P : RegRow → Type 0) → each_passes_from test 0 rows ≡ true → IsSomeAnd (slice_get rows i) P → (r : RegRow) × (test i r ≡ true) × P r × (i < length rows)
passes_at test rows i P passes found = first (passes_from test rows 0 i P passes found)
  where
    first : (s : RegRow) × (test (0 + i) s ≡ true) × P s × (i < length rows) → (s : RegRow) × (test i s ≡ true) × P s × (i < length rows)
    first (s, on, meets, within) = let place : i ≡ 0 + i = omega arith in (s, ap (λ n. test n s) place ∙ on, meets, within)
