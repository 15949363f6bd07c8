-- The lines up to the first line `end`.
use Rattle.std.proofs.Common.{◌≡◌, ℕ, ◌+◌, ◌<◌, Bool, true, false, nat_eq, nat_lt, cond, List, length, take, drop, Some, None, if◌then◌else◌, refl, ap, ◌∙◌, length-drop, ltb-true, arith}
use Rattle.std.specs.declared.option.Option.{Option}
use Rattle.std.proofs.lemmas.List.{length-take-le}
use Rattle.std.specs.List.{position_or_len}
use Rattle.script_text.specs.Words.{cut_at, cut_by, ended_lines}
use Rattle.script_text.proofs.LineCuts.{ended_lines-cut, ended_lines-none}
use Rattle.irqboard.specs.Parting.{is_end_line, lines_to_end, bytes_to_end}

abbrev sizes_of : Option (List ℕ × List ℕ) → ℕ
sizes_of None = 0
sizes_of (Some cut) = length cut.0 + 1 + length cut.1

-- a cut takes the line feed alone
pub cut-sizes : (xs line behind : List ℕ) → cut_at 10 xs ≡ Some (line, behind) → length line + 1 + length behind ≡ length xs
cut-sizes xs line behind h =
    let p = λ (b : ℕ). nat_eq b 10 in
    let q = position_or_len p xs in
    elim (nat_lt q (length xs)) as (λ b. nat_lt q (length xs) ≡ b → cut_by xs (cond b (Some q) None) ≡ Some (line, behind) → length line + 1 + length behind ≡ length xs) [
      | true ↦ λ lt e.
          let below : q < length xs = ltb-true _ _ lt in
          let sizes : length (take q xs) + 1 + length (drop (q + 1) xs) ≡ length line + 1 + length behind = ap sizes_of e in
          let front : length (take q xs) ≡ q = length-take-le q xs (omega (arith, below)) in
          omega (arith, below, sizes, front, length-drop (q + 1) xs)
      | false ↦ λ _ e. absurd (cc)
    ] refl h

-- a line that is not the end
bytes-next : (xs line behind : List ℕ) → cut_at 10 xs ≡ Some (line, behind)
    → bytes_to_end (length xs) (ended_lines xs) ≡ length line + 1 + (if is_end_line line then 0 else bytes_to_end (length behind) (ended_lines behind))
bytes-next xs line behind h =
    ap (bytes_to_end (length xs)) (ended_lines-cut xs line behind h)
    ∙ ap (λ n. length line + 1 + (if is_end_line line then 0 else bytes_to_end n (ended_lines behind))) (let s = cut-sizes xs line behind h in omega (arith, s))

pub bytes-more : (xs line behind : List ℕ) → cut_at 10 xs ≡ Some (line, behind) → is_end_line line ≡ false
    → bytes_to_end (length xs) (ended_lines xs) ≡ length line + 1 + bytes_to_end (length behind) (ended_lines behind)
bytes-more xs line behind h not =
    bytes-next xs line behind h ∙ ap (λ (t : Bool). length line + 1 + (if t then 0 else bytes_to_end (length behind) (ended_lines behind))) not

pub bytes-last : (xs line behind : List ℕ) → cut_at 10 xs ≡ Some (line, behind) → is_end_line line ≡ true
    → bytes_to_end (length xs) (ended_lines xs) ≡ length line + 1
bytes-last xs line behind h is =
    bytes-next xs line behind h ∙ ap (λ (t : Bool). length line + 1 + (if t then 0 else bytes_to_end (length behind) (ended_lines behind))) is
    ∙ omega arith

pub bytes-none : (xs : List ℕ) → cut_at 10 xs ≡ None → bytes_to_end (length xs) (ended_lines xs) ≡ length xs
bytes-none xs h = ap (bytes_to_end (length xs)) (ended_lines-none xs h)

pub lines-more : (xs line behind : List ℕ) → cut_at 10 xs ≡ Some (line, behind) → is_end_line line ≡ false
    → lines_to_end (ended_lines xs) ≡ lines_to_end (ended_lines behind) + 1
lines-more xs line behind h not =
    ap lines_to_end (ended_lines-cut xs line behind h) ∙ ap (λ (t : Bool). if t then 1 else lines_to_end (ended_lines behind) + 1) not

pub lines-last : (xs line behind : List ℕ) → cut_at 10 xs ≡ Some (line, behind) → is_end_line line ≡ true → lines_to_end (ended_lines xs) ≡ 1
lines-last xs line behind h is =
    ap lines_to_end (ended_lines-cut xs line behind h) ∙ ap (λ (t : Bool). if t then 1 else lines_to_end (ended_lines behind) + 1) is

pub lines-none : (xs : List ℕ) → cut_at 10 xs ≡ None → lines_to_end (ended_lines xs) ≡ 0
lines-none xs h = ap lines_to_end (ended_lines-none xs h)

pub ruleset parting_rules = (cut-sizes, bytes-more, bytes-last, bytes-none, lines-more, lines-last, lines-none)
