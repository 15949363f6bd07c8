-- Lines of a text.
use Rattle.std.proofs.Common.{◌≡◌, ℕ, true, false, nat_eq, nat_lt, cond, Some, None, take, ltb-true, ltb-false, refl, [], ◌+◌, ◌<◌, ◌≤◌, suc, List, ◌∷◌, length, drop, ap, ◌∙◌, arith}
use Rattle.std.specs.List.{position_or_len, slice_split}
use Rattle.std.specs.declared.option.Option.{Option}
use Rattle.std.proofs.lemmas.Bool.Decides.{nat_tests}
use Rattle.std.proofs.lemmas.List.Splits.{length-slice_split, slice_split_first, slice_split_none}
use Rattle.std.proofs.lemmas.List.Sums.{fails_before_first}
use Rattle.script_text.specs.Words.{is_empty, cut_at, cut_by, front_parts, last_part, ended_lines, is_ended}

pub some_part : (xs : List ℕ) → 0 < length (slice_split (λ b. nat_eq b 10) xs)
some_part xs = omega (arith, length-slice_split (λ b. nat_eq b 10) xs)

pub front-more : (p : List ℕ) (ps : List (List ℕ)) → 0 < length ps → front_parts (p ∷ ps) ≡ p ∷ front_parts ps
front-more p [] h = absurd (omega arith)
front-more p (q ∷ ps) h = refl

pub last-more : (p : List ℕ) (ps : List (List ℕ)) → 0 < length ps → last_part (p ∷ ps) ≡ last_part ps
last-more p [] h = absurd (omega arith)
last-more p (q ∷ ps) h = refl

abbrev before_of : Option (List ℕ × List ℕ) → List ℕ
before_of None = []
before_of (Some cut) = cut.0

abbrev behind_of : Option (List ℕ × List ℕ) → List ℕ
behind_of None = []
behind_of (Some cut) = cut.1

-- a cut at the first line feed cuts the first part off
parts-cut : (xs line behind : List ℕ) → cut_at 10 xs ≡ Some (line, behind) → slice_split (λ b. nat_eq b 10) xs ≡ line ∷ slice_split (λ b. nat_eq b 10) behind
parts-cut xs line behind h =
    let p = λ (b : ℕ). nat_eq b 10 in
    let q = position_or_len p xs in
    elim (nat_lt q (length xs)) as (λ b. nat_lt q (length xs) ≡ b → cut_by xs (cond b (Some q) None) ≡ Some (line, behind) → slice_split p xs ≡ line ∷ slice_split p behind) [
      | true ↦ λ lt e.
          let same : take q xs ≡ line = ap before_of e in
          let rest : drop (q + 1) xs ≡ behind = ap behind_of e in
          slice_split_first p xs 0 (ltb-true _ _ lt) ∙ (λ i. same i ∷ slice_split p (rest i))
      | false ↦ λ _ e. absurd (cc)
    ] refl h

parts-none : (xs : List ℕ) → cut_at 10 xs ≡ None → slice_split (λ b. nat_eq b 10) xs ≡ xs ∷ []
parts-none xs h =
    let p = λ (b : ℕ). nat_eq b 10 in
    elim (nat_lt (position_or_len p xs) (length xs)) as (λ b. nat_lt (position_or_len p xs) (length xs) ≡ b → cut_by xs (cond b (Some (position_or_len p xs)) None) ≡ None → slice_split p xs ≡ xs ∷ []) [
      | true ↦ λ _ e. absurd (cc)
      | false ↦ λ past _. let beyond : length xs ≤ position_or_len p xs = ltb-false _ _ past in slice_split_none p xs (λ k d below. fails_before_first p xs k d (omega arith))
    ] refl h

pub ended_lines-cut : (xs line behind : List ℕ) → cut_at 10 xs ≡ Some (line, behind) → ended_lines xs ≡ line ∷ ended_lines behind
ended_lines-cut xs line behind h = ap front_parts (parts-cut xs line behind h) ∙ front-more line _ (some_part behind)

pub is_ended-cut : (xs line behind : List ℕ) → cut_at 10 xs ≡ Some (line, behind) → is_ended xs ≡ is_ended behind
is_ended-cut xs line behind h = ap (λ ps. is_empty (last_part ps)) (parts-cut xs line behind h) ∙ ap is_empty (last-more line _ (some_part behind))

pub ended_lines-none : (xs : List ℕ) → cut_at 10 xs ≡ None → ended_lines xs ≡ []
ended_lines-none xs h = ap front_parts (parts-none xs h)

pub ruleset line_rules = (ended_lines-cut, is_ended-cut, ended_lines-none)

empty-length : (xs : List ℕ) → is_empty xs ≡ nat_eq (length xs) 0
empty-length [] = refl
empty-length (x ∷ xs) = not_zero (length xs)
  where
    not_zero : (n : ℕ) → false ≡ nat_eq (suc n) 0
    not_zero n = grind (arith, nat_tests)

pub is_ended-none : (xs : List ℕ) → cut_at 10 xs ≡ None → is_ended xs ≡ nat_eq (length xs) 0
is_ended-none xs h = ap (λ ps. is_empty (last_part ps)) (parts-none xs h) ∙ empty-length xs
