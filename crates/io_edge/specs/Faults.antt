-- When a fault may be answered.
use Rattle.std.specs.Prelude.{◌≡◌, ℕ, ◌+◌, ◌-◌, ◌^◌, ◌≤◌, List, min, is_some}
use Rattle.std.specs.declared.option.Option.{Option}

-- the next number of a count that stands still at the last value of 64 bits
abbrev pub count_up : ℕ → ℕ
count_up n = min (n + 1) (2 ^ 64 - 1)

-- a count rose: it is greater than before, or stands at its last value
abbrev pub Rose : ℕ → ℕ → Type 0
Rose before now = count_up before ≤ now

-- whether bytes are told never changes
abbrev pub StaysTold : Option (List ℕ) → Option (List ℕ) → Type 0
StaysTold old new = is_some new ≡ is_some old
