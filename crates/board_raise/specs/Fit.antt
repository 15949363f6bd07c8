-- Parts that can belong to one board of a shape (this board's own limits).
use Rattle.std.specs.Prelude.{◌≡◌, ℕ, ◌^◌, ◌<◌, ◌≤◌, length, All, IfSome}
use Rattle.std.specs.declared.option.Option.{Option}
use Rattle.irq_base.specs.declared.shape.Shape.{Shape}
use Rattle.irq_base.specs.declared.shape.Part.TheVariants.{Lapic}
use Rattle.pic_8259a.specs.declared.pair.Pair.{Pair}
use Rattle.ioapic_82093aa.specs.declared.ioapic.Ioapic.{Ioapic}
use Rattle.source_levels.specs.Holds.{Holds}
use Rattle.irqfd_set.specs.declared.irqfds.Irqfd.{Irqfd}
use Rattle.ack_notifiers.specs.declared.watches.Watch.{Watch}
use Rattle.ioevent_set.specs.declared.row.IoRow.{IoRow}
use Rattle.board_model.specs.Registry.{RegistryPart}
use Rattle.board_model.specs.Chips.{master_high, slave_high, ioapic_high}
use Rattle.board_model.specs.Hand.{Parts, part_in}
use Rattle.irq_bits.specs.declared.limits.TheConstants.{MAX_CPUS}

-- the numbers of a shape are inside the limits: 1 to MAX_CPUS processors, 0 to 256 counters, the tick's GSI below 4,096, 1 to 2^40
-- calls, at most 2^20 publications
pub record InLimits (shape : Shape) : Type 0 where
  pub some_cpus : 1 ≤ shape.cpus
  pub cpus : shape.cpus ≤ MAX_CPUS
  pub counters : shape.counters ≤ 256
  pub tick : shape.tick < 4096
  pub some_calls : 1 ≤ shape.calls
  pub calls : shape.calls ≤ 2 ^ 40
  pub publications : shape.publications ≤ 2 ^ 20

-- an irqfd names counters that there are, and a GSI
pub record IrqfdFits (counters : ℕ) (i : Irqfd) : Type 0 where
  pub trigger : i.trigger < counters
  pub gsi : i.gsi < 4096
  pub resample : IfSome i.resample (λ c. c < counters)

-- an acknowledge notifier names a counter that there is, and a GSI
pub record WatchFits (counters : ℕ) (w : Watch) : Type 0 where
  pub counter : w.counter < counters
  pub gsi : w.gsi < 4096

-- the registrations of each kind
pub record RegistrationsFit (counters : ℕ) (r : RegistryPart) : Type 0 where
  pub irqfds : All (IrqfdFits counters) r.irqfds
  pub watches : All (WatchFits counters) r.watches
  pub ioevents : All (λ (e : IoRow). e.counter < counters) r.ioevents

-- a pin of the pair is high exactly where some source holds it
pub record PairFits (pair : Pair) (holds : Holds) : Type 0 where
  pub master : pair.master.high ≡ master_high holds
  pub slave : pair.slave.high ≡ slave_high holds

-- a pin of the I/O APIC is high exactly where some source holds it
abbrev pub IoapicFits : Ioapic → Holds → Type 0
IoapicFits chip holds = chip.high ≡ ioapic_high holds

-- the chips in hand with the levels of their pins, and the holds beside them
pub record Pins : Type 0 where
  pub pic : Option (Pair × Holds)
  pub ioapic : Option (Ioapic × Holds)

-- one place for each processor, and at each place the local APIC of that number, if it is there
pub record LapicsFit (shape : Shape) (parts : Parts) : Type 0 where
  pub places : length parts.lapics ≡ shape.cpus
  pub numbers : (n : ℕ) → IfSome (part_in parts (Lapic n)) (λ apic. apic.number ≡ n)

-- the pins of both chips
pub record PinsFit (chips : Pins) : Type 0 where
  pub pic : IfSome chips.pic (λ p. PairFits p.0 p.1)
  pub ioapic : IfSome chips.ioapic (λ p. IoapicFits p.0 p.1)

-- parts in hand, with the levels of their pins, fit a shape
pub record Fits (shape : Shape) (parts : Parts) (chips : Pins) : Type 0 where
  pub limits : InLimits shape
  pub counters : IfSome parts.counters (λ counts. length counts ≡ shape.counters)
  pub registrations : IfSome parts.registry (RegistrationsFit shape.counters)
  pub tick : IfSome parts.tick (λ tick. tick.pending ≤ 2 ^ 40)
  pub lapics : LapicsFit shape parts
  pub pins : PinsFit chips
