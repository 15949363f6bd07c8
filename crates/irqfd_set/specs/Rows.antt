-- The rows of irqfds (KVM_IRQFD), a list in order of registration.
use Rattle.std.specs.Prelude.{ℕ, Bool, not, ◌&&◌, nat_eq, List, [], ◌∷◌, ◌++◌, filter, find, Option, is_some}
use Rattle.std.specs.List.{list_any}
use Rattle.irqfd_set.specs.declared.irqfds.Irqfd.{Irqfd}

-- a row with this trigger
abbrev pub has_trigger : ℕ → Irqfd → Bool
has_trigger trigger row = nat_eq row.trigger trigger

-- a row with this trigger and this GSI
abbrev pub is_named : ℕ → ℕ → Irqfd → Bool
is_named trigger gsi row = nat_eq row.trigger trigger && nat_eq row.gsi gsi

-- a row of this GSI with a resample counter
abbrev pub resamples : ℕ → Irqfd → Bool
resamples gsi row = nat_eq row.gsi gsi && is_some row.resample

-- the row of a trigger, if there is one
abbrev pub of_trigger : List Irqfd → ℕ → Option Irqfd
of_trigger rows trigger = find (has_trigger trigger) rows

-- the row of a trigger and a GSI, if there is one
abbrev pub named_row : List Irqfd → ℕ → ℕ → Option Irqfd
named_row rows trigger gsi = find (is_named trigger gsi) rows

-- one more row, at the end
abbrev pub with_row : List Irqfd → ℕ → ℕ → Option ℕ → List Irqfd
with_row rows trigger gsi resample = rows ++ record { trigger = trigger; gsi = gsi; resample = resample } ∷ []

-- the rows but that of this trigger and this GSI
abbrev pub without_row : List Irqfd → ℕ → ℕ → List Irqfd
without_row rows trigger gsi = filter (λ row. not (is_named trigger gsi row)) rows

-- whether a row of this GSI has a resample counter
abbrev pub has_resampler : List Irqfd → ℕ → Bool
has_resampler rows gsi = list_any (resamples gsi) rows
