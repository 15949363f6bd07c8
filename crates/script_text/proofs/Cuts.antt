-- A text cut at its first space or line feed.
use Rattle.std.proofs.Common.{◌≡◌, ℕ, true, false, nat_eq, nat_lt, cond, Some, None, take, drop, ltb-true, ltb-false, refl, [], ◌+◌, ◌<◌, ◌≤◌, List, ◌∷◌, length, ap, sym, ◌∙◌, add-one, drop-cons, subst, arith}
use Rattle.std.specs.List.{position, position_or_len}
use Rattle.std.proofs.lemmas.List.Splits.{slice_split_first, slice_split_none}
use Rattle.std.proofs.lemmas.Bool.Decides.{Decides-eqb}
use Rattle.std.proofs.lemmas.List.Sums.{fails_before_first, passes_at_first}
use Rattle.script_text.specs.Words.{parts_of, more_parts, BeginsWith, two_of, three_of}

-- behind a cut place stand the words behind its space
more-drop : (byte : ℕ) (xs : List ℕ) (k : ℕ) → k < length xs → more_parts byte (drop k xs) ≡ parts_of byte (drop (k + 1) xs)
more-drop byte xs k below = ap (more_parts byte) (drop-cons xs k 0 below) ∙ ap (λ n. parts_of byte (drop n xs)) (sym (add-one k))

pub cut-some : (byte : ℕ) (xs : List ℕ) (k : ℕ) → position (λ b. nat_eq b byte) xs ≡ Some k → parts_of byte xs ≡ take k xs ∷ more_parts byte (drop k xs)
cut-some byte xs k h =
    let p = λ (b : ℕ). nat_eq b byte in
    let q = position_or_len p xs in
    elim (nat_lt q (length xs)) as (λ b. nat_lt q (length xs) ≡ b → cond b (Some q) None ≡ Some k → parts_of byte xs ≡ take k xs ∷ more_parts byte (drop k xs)) [
      | true ↦ λ lt e.
          let below : q < length xs = ltb-true _ _ lt in
          let same : q ≡ k = cc in
          slice_split_first p xs 0 below ∙ ap (λ ws. take q xs ∷ ws) (sym (more-drop byte xs q below)) ∙ ap (λ n. take n xs ∷ more_parts byte (drop n xs)) same
      | false ↦ λ _ e. absurd (cc)
    ] refl h

pub cut-none : (byte : ℕ) (xs : List ℕ) → position (λ b. nat_eq b byte) xs ≡ None → parts_of byte xs ≡ xs ∷ []
cut-none byte xs h =
    let p = λ (b : ℕ). nat_eq b byte in
    elim (nat_lt (position_or_len p xs) (length xs)) as (λ b. nat_lt (position_or_len p xs) (length xs) ≡ b → cond b (Some (position_or_len p xs)) None ≡ None → parts_of byte xs ≡ xs ∷ []) [
      | true ↦ λ _ e. absurd (cc)
      | false ↦ λ past _. let beyond : length xs ≤ position_or_len p xs = ltb-false _ _ past in slice_split_none p xs (λ k d below. fails_before_first p xs k d (omega arith))
    ] refl h

pub ruleset cut_rules = (cut-some, cut-none)

-- what stands behind a cut place begins with the byte
pub cut-begins : (byte : ℕ) (xs t : List ℕ) (k : ℕ) → position (λ b. nat_eq b byte) xs ≡ Some k → t ≡ drop k xs → BeginsWith byte t
cut-begins byte xs t k h e =
    let p = λ (b : ℕ). nat_eq b byte in
    let q = position_or_len p xs in
    elim (nat_lt q (length xs)) as (λ b. nat_lt q (length xs) ≡ b → cond b (Some q) None ≡ Some k → BeginsWith byte t) [
      | true ↦ λ lt same.
          let below : q < length xs = ltb-true _ _ lt in
          let here : q ≡ k = cc in
          subst (BeginsWith byte) (sym (e ∙ ap (λ n. drop n xs) (sym here) ∙ drop-cons xs q 0 below)) ((Decides-eqb _ byte).0 (passes_at_first p xs 0 below))
      | false ↦ λ _ same. absurd (cc)
    ] refl h

pub three-two : (a : List ℕ) (ws : List (List ℕ)) → three_of (a ∷ ws) ≡ elim (two_of ws) [ None ↦ None | Some w ↦ Some (a, w.0, w.1) ]
three-two a [] = refl
three-two a (b ∷ []) = refl
three-two a (b ∷ c ∷ []) = refl
three-two a (b ∷ c ∷ d ∷ ws) = refl

pub ruleset count_rules = (three-two)
