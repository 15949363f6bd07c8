-- The scripts of the grammar: each number is of its type or range, and each actor may ask what its lines ask.
use Rattle.std.specs.Prelude.{◌≡◌, ℕ, ◌^◌, ◌<◌, ◌≤◌, true, Some, None, All}
use Rattle.std.specs.declared.option.Option.{Option}
use Rattle.irq_base.specs.declared.call.Call.{Call}
use Rattle.irq_base.specs.declared.call.Call.TheVariants.{Line, Msi, Write, Take, Assign, Deassign, Reroute, Attach, Detach, Watch}
use Rattle.irq_base.specs.declared.call.Call.TheVariants.{Unwatch, Tick, TickMode, PortOut, PortIn, Store, Load, Ack, Inta, Eoi}
use Rattle.irq_base.specs.declared.call.Caller.{Caller}
use Rattle.irq_base.specs.declared.call.Caller.TheVariants.{Device, Cpu}
use Rattle.irq_base.specs.declared.call.Row.{Row}
use Rattle.irq_base.specs.declared.call.Row.TheVariants.{Pic, Ioapic, Msi as MsiRow}
use Rattle.irq_base.specs.declared.shape.Shape.{Shape}
use Rattle.script_text.specs.declared.task.Task.{Task}
use Rattle.script_text.specs.declared.task.Task.TheVariants.{Once, Repeat, Serve}
use Rattle.script_text.specs.declared.task.ActorLine.{ActorLine}
use Rattle.script_text.specs.Scripts.{Script, may_ask}
use Rattle.irq_bits.specs.declared.limits.TheConstants.{MAX_CPUS}

abbrev pub FitsRow : Row → Type 0
FitsRow (Pic gsi n) = (gsi < 2 ^ 16) × (n < 2 ^ 8)
FitsRow (Ioapic gsi n) = (gsi < 2 ^ 16) × (n < 2 ^ 8)
FitsRow (MsiRow gsi address payload) = (gsi < 2 ^ 16) × (address < 2 ^ 64) × (payload < 2 ^ 32)

-- a number that may be left out has so many bits
abbrev pub FitsIfThere : ℕ → Option ℕ → Type 0
FitsIfThere bits None = Unit {0}
FitsIfThere bits (Some n) = n < 2 ^ bits

-- each number of a call fits its type
abbrev pub FitsCall : Call → Type 0
FitsCall (Line gsi line up) = (gsi < 2 ^ 16) × (line < 2 ^ 8)
FitsCall (Msi address payload) = (address < 2 ^ 64) × (payload < 2 ^ 32)
FitsCall (Write c n) = (c < 2 ^ 16) × (n < 2 ^ 64)
FitsCall (Take c) = c < 2 ^ 16
FitsCall (Assign c gsi resample) = (c < 2 ^ 16) × (gsi < 2 ^ 16) × FitsIfThere 16 resample
FitsCall (Deassign c gsi) = (c < 2 ^ 16) × (gsi < 2 ^ 16)
FitsCall (Reroute rows) = All FitsRow rows
FitsCall (Attach space address len c want) = (address < 2 ^ 64) × (len < 2 ^ 8) × (c < 2 ^ 16) × FitsIfThere 64 want
FitsCall (Detach space address len c want) = (address < 2 ^ 64) × (len < 2 ^ 8) × (c < 2 ^ 16) × FitsIfThere 64 want
FitsCall (Watch c gsi) = (c < 2 ^ 16) × (gsi < 2 ^ 16)
FitsCall (Unwatch c gsi) = (c < 2 ^ 16) × (gsi < 2 ^ 16)
FitsCall Tick = Unit {0}
FitsCall (TickMode reinject) = Unit {0}
FitsCall (PortOut port len value) = (port < 2 ^ 16) × (len < 2 ^ 8) × (value < 2 ^ 32)
FitsCall (PortIn port len) = (port < 2 ^ 16) × (len < 2 ^ 8)
FitsCall (Store address len value) = (address < 2 ^ 64) × (len < 2 ^ 8) × (value < 2 ^ 64)
FitsCall (Load address len) = (address < 2 ^ 64) × (len < 2 ^ 8)
FitsCall Ack = Unit {0}
FitsCall Inta = Unit {0}
FitsCall Eoi = Unit {0}

-- how often, 1 to 1,000,000
abbrev pub IsTimes : ℕ → Type 0
IsTimes n = (1 ≤ n) × (n ≤ 1000000)

abbrev pub FitsTask : Task → Type 0
FitsTask (Once call) = FitsCall call
FitsTask (Repeat n call) = IsTimes n × FitsCall call
FitsTask (Serve n) = IsTimes n

abbrev pub FitsCaller : Caller → Type 0
FitsCaller (Device d) = d < 2 ^ 16
FitsCaller (Cpu n) = n < 2 ^ 16

-- a line of a script with that shape
abbrev pub IsLine : Shape → ActorLine → Type 0
IsLine shape line = FitsCaller line.caller × FitsTask line.task × (may_ask shape line.caller line.task ≡ true)

-- the ranges of headers
pub record IsHeader (shape : Shape) : Type 0 where
  pub cpus : (1 ≤ shape.cpus) × (shape.cpus ≤ MAX_CPUS)
  pub counters : shape.counters ≤ 256
  pub tick : shape.tick ≤ 4095
  pub calls : (1 ≤ shape.calls) × (shape.calls ≤ 4000000)
  pub publications : shape.publications ≤ 1048576

pub record IsScript (s : Script) : Type 0 where
  pub header : IsHeader s.shape
  pub lines : All (IsLine s.shape) s.lines
