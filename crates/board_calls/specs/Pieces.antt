-- The first steps of calls that signal after them, each as a plan that ends with what the rest needs.
use Rattle.std.specs.Prelude.{ℕ, Bool, false, ◌||◌, nat_eq, nat_lt, if◌then◌else◌, List, slice_index, Result, Ok, Err, Some, None}
use Rattle.std.specs.Prelude.{option_map}
use Rattle.std.specs.List.{list_any}
use Rattle.std.specs.declared.option.Option.{Option}
use Rattle.irq_base.specs.Refusals.{first_of}
use Rattle.irq_base.specs.declared.refusal.Refusal.{Refusal}
use Rattle.irq_base.specs.declared.shape.Part.TheVariants.{Registry, Counters, Tick}
use Rattle.event_counter.specs.Counters.{taken}
use Rattle.irqfd_set.specs.declared.irqfds.Irqfd.{Irqfd}
use Rattle.irqfd_set.specs.Rows.{has_trigger, named_row, with_row, without_row}
use Rattle.tick_reinject.specs.Ticks.{tick_injects, ticked}
use Rattle.board_model.specs.Registry.{RegistryPart}
use Rattle.board_model.specs.Plan.{Plan, done, see, set as put_part, ◌>>=◌, ◌>>◌}
use Rattle.board_calls.specs.Refusals.{assign_reasons}
use Rattle.board_calls.specs.Registrations.{was_last_resampler}

-- ---- an irqfd ends

-- the row goes, and the value tells whether it was the last resampler of its GSI
abbrev pub removed : RegistryPart → ℕ → ℕ → Option Irqfd → Plan (Option Bool)
removed registry trigger gsi None = done None
removed registry trigger gsi (Some row) = do
  put_part Registry (record registry { irqfds = without_row registry.irqfds trigger gsi })
  done (Some (was_last_resampler row (without_row registry.irqfds trigger gsi)))

-- whether the row of that trigger and GSI is the last resampler of its GSI; none where there is none
abbrev pub last_removed : List Irqfd → ℕ → ℕ → Option Bool
last_removed rows trigger gsi = option_map (λ row. was_last_resampler row (without_row rows trigger gsi)) (named_row rows trigger gsi)

-- the row of that trigger and GSI goes; none where there is none
abbrev pub removing : ℕ → ℕ → Plan (Option Bool)
removing trigger gsi = do
  registry ← see Registry
  removed registry trigger gsi (named_row registry.irqfds trigger gsi)

-- ---- an irqfd is made

-- whether a resample counter, if there is one, is this trigger or that of a living irqfd
abbrev pub clashes : List Irqfd → ℕ → Option ℕ → Bool
clashes rows trigger None = false
clashes rows trigger (Some counter) = nat_eq counter trigger || list_any (has_trigger counter) rows

-- the row is there unless it is refused, the count of its trigger is 0, and the value tells whether it was above 0
abbrev pub added : RegistryPart → List ℕ → ℕ → ℕ → Option ℕ → Option Refusal → Plan (Result Bool Refusal)
added registry counts trigger gsi resample (Some refusal) = done (Err refusal)
added registry counts trigger gsi resample None = do
  put_part Registry (record registry { irqfds = with_row registry.irqfds trigger gsi resample })
  put_part Counters (taken counts trigger)
  done (Ok (nat_lt 0 (slice_index counts trigger)))

-- a row is added, or refused
abbrev pub adding : ℕ → ℕ → Option ℕ → Plan (Result Bool Refusal)
adding trigger gsi resample = do
  registry ← see Registry
  counts ← see Counters
  added registry counts trigger gsi resample (first_of (assign_reasons registry trigger resample))

-- ---- a tick falls

-- the tick is pending where it is held back, and the value is then how many are; none where it is injected at once
abbrev pub falling : Plan (Option ℕ)
falling = do
  before ← see Tick
  put_part Tick (ticked before)
  done (if tick_injects before then None else Some (ticked before).pending)
