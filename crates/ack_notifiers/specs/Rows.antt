-- Acknowledge notifiers, a list of rows in order of registration (this board's own rule).
use Rattle.std.specs.Prelude.{ℕ, Bool, not, ◌&&◌, nat_eq, nat_le, if◌then◌else◌, List, [], ◌∷◌, ◌++◌, length, map, filter, Result, Ok, Err}
use Rattle.std.specs.List.{list_any}
use Rattle.irq_base.specs.declared.event.Event.{Event}
use Rattle.irq_base.specs.declared.event.Event.TheVariants.{Watched}
use Rattle.irq_base.specs.declared.refusal.Refusal.{Refusal}
use Rattle.irq_base.specs.declared.refusal.Refusal.TheVariants.{Exists, Full, NotThere}
use Rattle.ack_notifiers.specs.declared.watches.Watch.{Watch}

-- a row with this counter and this GSI
abbrev pub is_named : ℕ → ℕ → Watch → Bool
is_named counter gsi row = nat_eq row.counter counter && nat_eq row.gsi gsi

-- whether there is such a row
abbrev pub has_row : List Watch → ℕ → ℕ → Bool
has_row rows counter gsi = list_any (is_named counter gsi) rows

-- whether a row is of this GSI
abbrev pub has_watch : List Watch → ℕ → Bool
has_watch rows gsi = list_any (λ row. nat_eq row.gsi gsi) rows

-- whether a row has this counter
abbrev pub has_counter : List Watch → ℕ → Bool
has_counter rows counter = list_any (λ row. nat_eq row.counter counter) rows

-- a watch that is there is refused, and then any where 256 are there
abbrev pub watch_answer : List Watch → ℕ → ℕ → Result (Unit {0}) Refusal
watch_answer rows counter gsi = if has_row rows counter gsi then Err Exists else if nat_le 256 (length rows) then Err Full else Ok tt

-- a watch that is not there cannot end
abbrev pub unwatch_answer : List Watch → ℕ → ℕ → Result (Unit {0}) Refusal
unwatch_answer rows counter gsi = if has_row rows counter gsi then Ok tt else Err NotThere

-- one more row, at the end
abbrev pub with_row : List Watch → ℕ → ℕ → List Watch
with_row rows counter gsi = rows ++ record { counter = counter; gsi = gsi } ∷ []

-- the rows but that of this counter and this GSI
abbrev pub without_row : List Watch → ℕ → ℕ → List Watch
without_row rows counter gsi = filter (λ row. not (is_named counter gsi row)) rows

-- the counters that an acknowledge of this GSI signals, in order of registration
abbrev pub watched : List Watch → ℕ → List ℕ
watched rows gsi = map (λ row. row.counter) (filter (λ row. nat_eq row.gsi gsi) rows)

-- an event for each of them
abbrev pub watch_events : List Watch → ℕ → List Event
watch_events rows gsi = map Watched (watched rows gsi)
