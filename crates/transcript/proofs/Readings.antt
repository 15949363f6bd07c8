-- Lines one after another.
use Rattle.std.proofs.Common.{◌≡◌, ℕ, ◌+◌, nat_eq, List, length, Some, None, Ok, Err, ap, sym, ◌∙◌}
use Rattle.irq_base.specs.declared.fault.LineCause.{LineCause}
use Rattle.script_text.specs.Words.{cut_at, ended_lines, is_ended}
use Rattle.script_text.proofs.LineCuts.{ended_lines-cut, is_ended-cut, ended_lines-none, is_ended-none}
use Rattle.transcript.specs.declared.reading.Stage.{Stage}
use Rattle.transcript.specs.Reading.{judge, read_from, next_line, at_end}

-- a line that ends
read-line : (s : Stage) (n : ℕ) (xs line behind : List ℕ) → cut_at 10 xs ≡ Some (line, behind) →
    read_from s n (ended_lines xs) (is_ended xs) ≡ next_line n (judge s line) (λ t. read_from t (n + 1) (ended_lines behind) (is_ended behind))
read-line s n xs line behind h i = read_from s n (ended_lines-cut xs line behind h i) (is_ended-cut xs line behind h i)

pub read-more : (s t : Stage) (n : ℕ) (xs line behind : List ℕ) → cut_at 10 xs ≡ Some (line, behind) → judge s line ≡ Ok t →
    read_from t (n + 1) (ended_lines behind) (is_ended behind) ≡ read_from s n (ended_lines xs) (is_ended xs)
read-more s t n xs line behind h ok =
    sym (read-line s n xs line behind h ∙ ap (λ r. next_line n r (λ t. read_from t (n + 1) (ended_lines behind) (is_ended behind))) ok)

pub read-bad : (s : Stage) (cause : LineCause) (n : ℕ) (xs line behind : List ℕ) → cut_at 10 xs ≡ Some (line, behind) → judge s line ≡ Err cause →
    read_from s n (ended_lines xs) (is_ended xs) ≡ Err (n, cause)
read-bad s cause n xs line behind h bad =
    read-line s n xs line behind h ∙ ap (λ r. next_line n r (λ t. read_from t (n + 1) (ended_lines behind) (is_ended behind))) bad

-- no line feed any more
pub read-end : (s : Stage) (n : ℕ) (xs : List ℕ) → cut_at 10 xs ≡ None → read_from s n (ended_lines xs) (is_ended xs) ≡ at_end s n (nat_eq (length xs) 0)
read-end s n xs h i = read_from s n (ended_lines-none xs h i) (is_ended-none xs h i)

pub ruleset read_rules = (read-more, read-bad, read-end)
