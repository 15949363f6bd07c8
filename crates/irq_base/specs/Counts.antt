-- Counts in the manner of eventfd.
use Rattle.std.specs.Prelude.{ℕ, ◌+◌, ◌-◌, ◌^◌, List, slice_index, slice_set, min, fold}

-- one more of the count at c; at the greatest count of eventfd(2) it stays, which is this board's own rule
abbrev pub signalled : List ℕ → ℕ → List ℕ
signalled counts c = slice_set counts c (min (slice_index counts c + 1) (2 ^ 64 - 2))

-- these counters are signalled, one after another
abbrev pub signalled_all : List ℕ → List ℕ → List ℕ
signalled_all counts signals = fold signalled counts signals
