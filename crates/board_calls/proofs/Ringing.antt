-- The counter that a write rings is one of the ioeventfds'.
use Rattle.std.proofs.Common.{ℕ, ◌<◌, Bool, true, false, if◌then◌else◌, List, [], ◌∷◌, All, Some, IfSome}
use Rattle.std.proofs.lemmas.List.Elements.{All-head, All-tail}
use Rattle.std.specs.List.{find}
use Rattle.irq_base.specs.declared.call.Space.{Space}
use Rattle.ioevent_set.specs.declared.row.IoRow.{IoRow}
use Rattle.ioevent_set.specs.Rows.{does_fit, counter_of, rung_by}

pub rung_below : (n : ℕ) (rows : List IoRow) (space : Space) (address len value : ℕ) → All (λ (e : IoRow). e.counter < n) rows → IfSome (rung_by rows space address len value) (λ c. c < n)
rung_below n [] space address len value fits = tt
rung_below n (row ∷ rows) space address len value fits = by (does_fit space address len value row) (rung_below n rows space address len value (All-tail (λ (e : IoRow). e.counter < n) row rows fits))
  where
    by : (t : Bool) → IfSome (rung_by rows space address len value) (λ c. c < n) → IfSome (counter_of (if t then Some row else find (does_fit space address len value) rows)) (λ c. c < n)
    by true later = All-head (λ (e : IoRow). e.counter < n) row rows fits
    by false later = later
