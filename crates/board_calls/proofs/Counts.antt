-- A count is read where it is above 0.
use Rattle.std.proofs.Common.{◌≡◌, ℕ, Bool, true, false, not, nat_eq, nat_lt, if◌then◌else◌, is_some, Some, None, refl, ◌∙◌, arith}
use Rattle.std.proofs.lemmas.Bool.Decides.{nat_tests}
use Rattle.event_counter.specs.Counters.{what_is_read}

above : (count : ℕ) → not (nat_eq count 0) ≡ nat_lt 0 count
above count = grind (arith, nat_tests)

pub read_above : (count : ℕ) → is_some (what_is_read count) ≡ nat_lt 0 count
read_above count = at (nat_eq count 0) ∙ above count
  where
    at : (t : Bool) → is_some (if t then None else Some count) ≡ not t
    at true = refl
    at false = refl

pub ruleset count_rules = (read_above)
