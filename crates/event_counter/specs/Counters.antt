-- What is done to counters (eventfd(2)), seen as a list of counts.
use Rattle.std.specs.Prelude.{ℕ, ◌+◌, List, slice_index, slice_set, nat_eq, if◌then◌else◌, Some, None, Option}

-- n more of the count at c
abbrev pub written : List ℕ → ℕ → ℕ → List ℕ
written counts c n = slice_set counts c (slice_index counts c + n)

-- the count at c is 0
abbrev pub taken : List ℕ → ℕ → List ℕ
taken counts c = slice_set counts c 0

-- a read gives a count above 0
abbrev pub what_is_read : ℕ → Option ℕ
what_is_read count = if nat_eq count 0 then None else Some count
