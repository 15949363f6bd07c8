-- Where the offsets are distinct, the first row of an offset is the only one.
use Rattle.std.proofs.Common.{◌≡◌, ℕ, ◌<◌, ◌↔◌, zero, suc, true, ◌==◌, inl, inr, List, [], ◌∷◌, length, Some, IfSome, true≢false, ap, subst, ◌∙◌, arith}
use Rattle.std.proofs.lemmas.Bool.Decides.{nat_tests, eqb_tells}
use Rattle.std.specs.List.{list_any, position, position_or_len}
use Rattle.std.specs.declared.option.Option.{Option}
use Rattle.reg_table.specs.declared.row.RegRow.{RegRow}
use Rattle.reg_table.specs.Rows.{are_distinct, IsRowOf}

some_has : (rows : List RegRow) (offset k : ℕ) → IsRowOf rows offset k → list_any (λ row. row.offset == offset) rows ≡ true
some_has [] offset k found = absurd found
some_has (r ∷ rows) offset zero found = let same : r.offset ≡ offset = found in grind (arith, nat_tests)
some_has (r ∷ rows) offset (suc k) found = let rest = some_has rows offset k found in grind (arith, nat_tests)

first_at : (rows : List RegRow) (offset k : ℕ) → are_distinct rows ≡ true → IsRowOf rows offset k → (k < length rows) × (position_or_len (λ row. row.offset == offset) rows ≡ k)
first_at [] offset k distinct found = absurd found
first_at (r ∷ rows) offset zero distinct found = let same : r.offset ≡ offset = found in (omega arith, grind (arith, nat_tests))
first_at (r ∷ rows) offset (suc k) distinct found =
    let rest = first_at rows offset k (grind arith) found in
    let there = some_has rows offset k found in
    elim (eqb_tells r.offset offset) [
      | inl h ↦ let there_too : list_any (λ row. row.offset == r.offset) rows ≡ true = ap (λ n. list_any (λ row. row.offset == n) rows) h.1 ∙ there in absurd (true≢false (grind arith))
      | inr h ↦ (omega (arith, rest.0), grind (arith, nat_tests))
    ]

-- the row that a look-up finds, exactly
pub found_exactly : (rows : List RegRow) (offset : ℕ) (found : Option ℕ) → are_distinct rows ≡ true → found ≡ position (λ row. row.offset == offset) rows → IfSome found (IsRowOf rows offset) → (k : ℕ) → (found ≡ Some k) ↔ IsRowOf rows offset k
found_exactly rows offset found distinct first meets k = (
  λ e. subst (λ o. IfSome o (IsRowOf rows offset)) e meets,
  λ row. let at = first_at rows offset k distinct row in first ∙ grind (arith, nat_tests),
)
