-- Lines one after another.
use Rattle.std.proofs.Common.{◌≡◌, ℕ, ◌+◌, nat_eq, List, length, Some, None, Ok, Err, ap, sym, ◌∙◌}
use Rattle.irq_base.specs.declared.fault.LineCause.{LineCause}
use Rattle.script_text.specs.declared.judging.Place.{Place}
use Rattle.script_text.specs.Words.{cut_at, ended_lines, is_ended}
use Rattle.script_text.specs.Scripts.{Script, judge, script_from, next_line, at_end}
use Rattle.script_text.proofs.LineCuts.{ended_lines-cut, is_ended-cut, ended_lines-none, is_ended-none}

-- a line that ends
read-line : (p : Place) (s : Script) (n : ℕ) (xs line behind : List ℕ) → cut_at 10 xs ≡ Some (line, behind) →
    script_from p s n (ended_lines xs) (is_ended xs) ≡ next_line n (judge p s line) (λ t. script_from t.0 t.1 (n + 1) (ended_lines behind) (is_ended behind))
read-line p s n xs line behind h i = script_from p s n (ended_lines-cut xs line behind h i) (is_ended-cut xs line behind h i)

pub read-more : (p q : Place) (s t : Script) (n : ℕ) (xs line behind : List ℕ) → cut_at 10 xs ≡ Some (line, behind) → judge p s line ≡ Ok (q, t) →
    script_from q t (n + 1) (ended_lines behind) (is_ended behind) ≡ script_from p s n (ended_lines xs) (is_ended xs)
read-more p q s t n xs line behind h ok =
    sym (read-line p s n xs line behind h ∙ ap (λ r. next_line n r (λ t. script_from t.0 t.1 (n + 1) (ended_lines behind) (is_ended behind))) ok)

pub read-bad : (p : Place) (s : Script) (cause : LineCause) (n : ℕ) (xs line behind : List ℕ) → cut_at 10 xs ≡ Some (line, behind) → judge p s line ≡ Err cause →
    script_from p s n (ended_lines xs) (is_ended xs) ≡ Err (n, cause)
read-bad p s cause n xs line behind h bad =
    read-line p s n xs line behind h ∙ ap (λ r. next_line n r (λ t. script_from t.0 t.1 (n + 1) (ended_lines behind) (is_ended behind))) bad

-- no line feed any more
pub read-end : (p : Place) (s : Script) (n : ℕ) (xs : List ℕ) → cut_at 10 xs ≡ None → script_from p s n (ended_lines xs) (is_ended xs) ≡ at_end p s n (nat_eq (length xs) 0)
read-end p s n xs h i = script_from p s n (ended_lines-none xs h i) (is_ended-none xs h i)

pub ruleset read_rules = (read-more, read-bad, read-end)
