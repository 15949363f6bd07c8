-- A part that a call reaches on every board of a shape, where the table of reach alone names one (this board's own rule).
use Rattle.std.specs.Prelude.{◌≡◌, ℕ, true, not, ◌&&◌, nat_lt, if◌then◌else◌, Some, None}
use Rattle.std.specs.declared.option.Option.{Option}
use Rattle.irq_base.specs.declared.call.Call.{Call}
use Rattle.irq_base.specs.declared.call.Call.TheVariants as calls
use Rattle.irq_base.specs.declared.call.Caller.{Caller}
use Rattle.irq_base.specs.declared.message.Message.{Message}
use Rattle.irq_base.specs.declared.shape.Part.{Part}
use Rattle.irq_base.specs.declared.shape.Part.TheVariants.{Registry, Counters, Tick, Pic, Ioapic, Lapic}
use Rattle.irq_base.specs.declared.shape.Shape.{Shape}
use Rattle.lapic.specs.Messages.{is_taken}
use Rattle.msi_decode.specs.Messages.{message_of}
use Rattle.pic_8259a.specs.Pair.{is_port}
use Rattle.board_model.specs.Board.{Board}
use Rattle.board_calls.specs.Refusals.{is_ioapic_address, is_lapic_address}
use Rattle.board_step.specs.Reach.{reach}

-- the part is in the call's reach on every board of the shape
abbrev pub IsSure : Shape → Caller → Call → Part → Type 0
IsSure shape caller call part = (b : Board) → b.shape ≡ shape → reach b caller call part ≡ true

-- the local APIC that a message with a physical destination names, where local APICs take its mode
abbrev pub named_alone : Option Message → ℕ → Option Part
named_alone None cpus = None
named_alone (Some message) cpus =
    if is_taken message.mode && (not message.logical && nat_lt message.dest cpus) then Some (Lapic message.dest) else None

-- the chip whose registers stand at an address, or another part where there is none
abbrev pub chip_or : Option Part → ℕ → ℕ → Option Part
chip_or other n address =
    if is_ioapic_address address then Some Ioapic
    else if is_lapic_address address then Some (Lapic n)
    else other

-- what a call of the caller with that number, whose arguments are in range, reaches on every board; none where published words,
-- and not the table, tell
abbrev pub sure_part : Shape → ℕ → Call → Option Part
sure_part shape n (calls.Line gsi line high) = None
sure_part shape n (calls.Msi address payload) = named_alone (message_of address payload) shape.cpus
sure_part shape n (calls.Write counter count) = None
sure_part shape n (calls.Take counter) = Some Counters
sure_part shape n (calls.Assign trigger gsi resample) = Some Registry
sure_part shape n (calls.Deassign trigger gsi) = Some Registry
sure_part shape n (calls.Reroute rows) = Some Registry
sure_part shape n (calls.Attach space address len counter want) = Some Registry
sure_part shape n (calls.Detach space address len counter want) = Some Registry
sure_part shape n (calls.Watch counter gsi) = Some Registry
sure_part shape n (calls.Unwatch counter gsi) = Some Registry
sure_part shape n calls.Tick = Some Tick
sure_part shape n (calls.TickMode reinject) = Some Tick
sure_part shape n (calls.PortOut port len value) = if is_port port then Some Pic else Some Registry
sure_part shape n (calls.PortIn port len) = if is_port port then Some Pic else None
sure_part shape n (calls.Store address len value) = chip_or (Some Registry) n address
sure_part shape n (calls.Load address len) = chip_or None n address
sure_part shape n calls.Ack = Some (Lapic n)
sure_part shape n calls.Inta = Some Pic
sure_part shape n calls.Eoi = Some (Lapic n)
