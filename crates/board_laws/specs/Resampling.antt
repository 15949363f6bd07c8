-- Each acknowledge resamples once, in order (over this board's own definitions).
use Rattle.std.specs.Prelude.{◌≡◌, ℕ, true, false, List, [], ◌∷◌, ◌++◌, Some}
use Rattle.std.specs.FinSet as set
use Rattle.irq_base.specs.declared.event.Event.{Event}
use Rattle.irq_base.specs.declared.event.Event.TheVariants.{Acked, Resampled, Watched}
use Rattle.irq_base.specs.declared.event.Pin.{Pin}
use Rattle.irq_base.specs.declared.event.Pin.TheVariants as pins
use Rattle.irq_base.specs.declared.lists.Entry.{Entry}
use Rattle.irq_base.specs.declared.message.Source.TheVariants.{Resample}
use Rattle.irq_base.specs.declared.shape.Shape.{Shape}
use Rattle.source_levels.specs.Holds.{Holds, hold}
use Rattle.irq_base.specs.Counts.{signalled_all}
use Rattle.irqfd_set.specs.Rows.{has_resampler}
use Rattle.ack_notifiers.specs.Rows.{watch_events}
use Rattle.resampler.specs.Resample.{resample_events}
use Rattle.route_table.specs.Pins.{gsi_of}
use Rattle.board_model.specs.Registry.{RegistryPart}
use Rattle.board_model.specs.Board.{Board}
use Rattle.board_laws.specs.Points.{AtEachEntry}

-- the counter that an event tells to be signalled by an acknowledge
abbrev pub counter_told : Event → List ℕ
counter_told (Resampled counter) = counter ∷ []
counter_told (Watched counter) = counter ∷ []
counter_told _ = []

-- the counters that events tell, in order
abbrev pub counters_told : List Event → List ℕ
counters_told [] = []
counters_told (event ∷ events) = counter_told event ++ counters_told events

-- the event itself, where it tells such a counter
abbrev pub signal_told : Event → List Event
signal_told (Resampled counter) = Resampled counter ∷ []
signal_told (Watched counter) = Watched counter ∷ []
signal_told _ = []

-- those among events, in order
abbrev pub signals_told : List Event → List Event
signals_told [] = []
signals_told (event ∷ events) = signal_told event ++ signals_told events

-- the events that an Acked of a GSI brings about: one for each of its resamplers, and then one for each of its notifiers
abbrev pub signal_owed : RegistryPart → Event → List Event
signal_owed registry (Acked pin (Some gsi)) = resample_events registry.irqfds gsi ++ watch_events registry.watches gsi
signal_owed registry _ = []

-- those that events bring about, in order
abbrev pub signals_owed : RegistryPart → List Event → List Event
signals_owed registry [] = []
signals_owed registry (event ∷ events) = signal_owed registry event ++ signals_owed registry events

-- Resample holds no pin of the GSI; `chip` makes a pin of its number
abbrev pub IsReleased : RegistryPart → ℕ → Holds → (ℕ → Pin) → Type 0
IsReleased registry gsi holds chip =
    (pin : ℕ) → gsi_of registry.table (chip pin) ≡ Some gsi → set.contains holds (hold pin Resample) ≡ false

-- after the Acked of a GSI with resamplers comes one Resampled for each of them, in order; the entry tells no others than each
-- Acked brings about; each event adds one to its counter, a full one staying full; and after the entry Resample holds no pin
-- of the GSI
pub record ResamplesOnce (b : Board) (e : Entry) (c : Board) (gsi : ℕ) (after : List Event) : Type 0 where
  pub more : List Event
  pub events : after ≡ resample_events b.registry.irqfds gsi ++ more
  pub once : signals_told e.events ≡ signals_owed b.registry e.events
  pub counts : c.counters ≡ signalled_all b.counters (counters_told e.events)
  pub pic : IsReleased b.registry gsi c.pic.holds pins.Pic
  pub ioapic : IsReleased b.registry gsi c.ioapic.holds pins.Ioapic

-- an entry tells an Acked of a GSI that has resamplers, and then these events
pub record Acknowledges (b : Board) (e : Entry) (gsi : ℕ) (after : List Event) : Type 0 where
  pub before : List Event
  pub pin : Pin
  pub told : e.events ≡ before ++ Acked pin (Some gsi) ∷ after
  pub resamples : has_resampler b.registry.irqfds gsi ≡ true

-- so it is of each Acked of an entry
abbrev pub AcknowledgesResampleOnce : Board → Entry → Board → Type 0
AcknowledgesResampleOnce b e c = (gsi : ℕ) (after : List Event) → Acknowledges b e gsi after → ResamplesOnce b e c gsi after

-- so it is at each entry of a history
abbrev pub EachAcknowledgeResamplesOnce : Shape → List Entry → Type 0
EachAcknowledgeResamplesOnce = AtEachEntry AcknowledgesResampleOnce
