-- Which counters an acknowledge resamples (KVM_IRQFD, resample).
use Rattle.std.specs.Prelude.{ℕ, nat_eq, if◌then◌else◌, List, map, filter_map, Option, None}
use Rattle.irq_base.specs.declared.event.Event.{Event}
use Rattle.irq_base.specs.declared.event.Event.TheVariants.{Resampled}
use Rattle.irqfd_set.specs.declared.irqfds.Irqfd.{Irqfd}

-- the resample counter of a row of this GSI
abbrev pub resample_of : ℕ → Irqfd → Option ℕ
resample_of gsi row = if nat_eq row.gsi gsi then row.resample else None

-- the resample counters of a GSI, in order of registration
abbrev pub resampled : List Irqfd → ℕ → List ℕ
resampled rows gsi = filter_map (resample_of gsi) rows

-- an event for each of them
abbrev pub resample_events : List Irqfd → ℕ → List Event
resample_events rows gsi = map Resampled (resampled rows gsi)
