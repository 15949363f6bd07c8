-- What holds of every board that a legal history leads to (this board's own rules and limits).
use Rattle.std.specs.Prelude.{◌≡◌, ℕ, ◌-◌, ◌^◌, ◌<◌, ◌≤◌, false, length, slice_get, All, AllPairs, IsTrue, Some}
use Rattle.std.specs.FinSet as set
use Rattle.irq_base.specs.declared.event.Pin.{Pin}
use Rattle.irq_base.specs.declared.event.Pin.TheVariants as pins
use Rattle.irq_base.specs.declared.message.Source.TheVariants.{Resample}
use Rattle.irq_base.specs.declared.shape.Part.TheVariants.{Lapic}
use Rattle.source_levels.specs.Holds.{Hold, Holds, hold}
use Rattle.irqfd_set.specs.declared.irqfds.Irqfd.{Irqfd}
use Rattle.irqfd_set.specs.Rows.{has_trigger, has_resampler}
use Rattle.ack_notifiers.specs.declared.watches.Watch.{Watch}
use Rattle.ack_notifiers.specs.Rows.{is_named}
use Rattle.ioevent_set.specs.declared.row.IoRow.{IoRow}
use Rattle.ioevent_set.specs.Rows.{do_collide}
use Rattle.route_table.specs.Pins.{gsi_of}
use Rattle.board_model.specs.Registry.{RegistryPart}
use Rattle.board_model.specs.Published.{IsSoundRegistry}
use Rattle.board_model.specs.Board.{Board, part_of}
use Rattle.board_raise.specs.Fit.{InLimits, RegistrationsFit}
use Rattle.board_calls.specs.Refusals.{is_trigger, is_signalled}

-- irqfds have different triggers, none of which is signalled; notifiers are different and at most 256; no ioeventfds collide,
-- and they are at most 256
pub record AreDistinct (registry : RegistryPart) : Type 0 where
  pub triggers : AllPairs (λ (row other : Irqfd). has_trigger row.trigger other ≡ false) registry.irqfds
  pub roles : All (λ (row : Irqfd). is_signalled registry row.trigger ≡ false) registry.irqfds
  pub watches : AllPairs (λ (row other : Watch). is_named row.counter row.gsi other ≡ false) registry.watches
  pub watch_count : length registry.watches ≤ 256
  pub ioevents : AllPairs (λ (row other : IoRow). do_collide row other ≡ false) registry.ioevents
  pub ioevent_count : length registry.ioevents ≤ 256

-- there is a count for each counter of the shape; none is past the greatest count, and that of a trigger is 0
pub record CountsStand (b : Board) : Type 0 where
  pub number : length b.counters ≡ b.shape.counters
  pub greatest : All (λ count. count ≤ 2 ^ 64 - 2) b.counters
  pub triggers : (counter count : ℕ) → IsTrue (is_trigger b.registry counter) → slice_get b.counters counter ≡ Some count → count ≡ 0

-- there is a local APIC for each processor, with its number
pub record LapicsStand (b : Board) : Type 0 where
  pub places : length b.lapics ≡ b.shape.cpus
  pub numbers : (n : ℕ) → (part_of b (Lapic n)).number ≡ n

-- the pin has a GSI, and that GSI has a resampler
pub record HasResampler (registry : RegistryPart) (pin : Pin) : Type 0 where
  pub gsi : ℕ
  pub named : gsi_of registry.table pin ≡ Some gsi
  pub resamples : IsTrue (has_resampler registry.irqfds gsi)

-- of these holds Resample holds only pins whose GSI has a resampler; `chip` makes a pin of its number
abbrev pub ResamplersHold : RegistryPart → Holds → (ℕ → Pin) → Type 0
ResamplersHold registry holds chip = (pin : ℕ) → IsTrue (set.contains holds (hold pin Resample)) → HasResampler registry (chip pin)

-- only pins that there are, so many, are held, and Resample only for resamplers
pub record HoldsStand (registry : RegistryPart) (holds : Holds) (count : ℕ) (chip : ℕ → Pin) : Type 0 where
  pub there : (h : Hold) → IsTrue (set.contains holds h) → h.pin < count
  pub resample : ResamplersHold registry holds chip

-- a board that a legal history may lead to
pub record IsSound (b : Board) : Type 0 where
  pub limits : InLimits b.shape
  pub registry : IsSoundRegistry b.registry b.shape.tick
  pub named : RegistrationsFit b.shape.counters b.registry
  pub distinct : AreDistinct b.registry
  pub counts : CountsStand b
  pub pending : b.tick.pending ≤ b.length
  pub lapics : LapicsStand b
  pub entries : length b.ioapic.entries ≡ 24
  pub pic_holds : HoldsStand b.registry b.pic.holds 16 pins.Pic
  pub ioapic_holds : HoldsStand b.registry b.ioapic.holds 24 pins.Ioapic
  pub calls : b.length ≤ b.shape.calls
  pub publications : b.publications ≤ b.shape.publications
