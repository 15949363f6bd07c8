-- What accesses of the guest do (KVM_IOEVENTFD; 8259A and 82093AA data sheets; SDM volume 3, local APIC).
use Rattle.std.specs.Prelude.{ℕ, ◌-◌, nat_eq, if◌then◌else◌, Some, None}
use Rattle.std.specs.declared.option.Option.{Option}
use Rattle.irq_base.specs.declared.call.Space.{Space}
use Rattle.irq_base.specs.declared.call.Space.TheVariants as spaces
use Rattle.irq_base.specs.declared.event.Event.TheVariants.{Rang}
use Rattle.irq_base.specs.declared.reply.Reply.TheVariants.{Done, Value, Exit}
use Rattle.irq_base.specs.declared.shape.Part.TheVariants.{Registry, Counters, Pic, Ioapic, Lapic}
use Rattle.irq_base.specs.declared.shape.Shape.{Shape}
use Rattle.irq_base.specs.Counts.{signalled}
use Rattle.pic_8259a.specs.declared.pair.Pair.{Pair}
use Rattle.pic_8259a.specs.Accesses.{Effect, Read}
use Rattle.pic_8259a.specs.Pair.{is_port, write_to as pair_write_to, read_from as pair_read_from}
use Rattle.ioapic_82093aa.specs.Pins.{Written, write_to, read_from, resend_of}
use Rattle.lapic.specs.declared.outcome.Effect.{Effect as LapicEffect}
use Rattle.lapic.specs.declared.outcome.Effect.TheVariants as effects
use Rattle.lapic.specs.Registers.{LocalApic}
use Rattle.lapic.specs.Offsets.{load_of, store_to, store_effect}
use Rattle.ioevent_set.specs.Rows.{rung_by}
use Rattle.board_model.specs.declared.trigger.TriggerWord.{TriggerWord}
use Rattle.board_model.specs.Routing.{Routing}
use Rattle.board_model.specs.Chips.{PicPart, pair_of, with_pair, IoapicPart, ioapic_of, with_ioapic}
use Rattle.board_model.specs.Plan.{injected, ipi, Plan, done, see, set as put_part, change, say, reply, ◌>>=◌, ◌>>◌}
use Rattle.board_raise.specs.Send.{send}
use Rattle.board_raise.specs.Signal.{inject}
use Rattle.board_ack.specs.Acknowledge.{resend, acknowledge_each}
use Rattle.board_calls.specs.Refusals.{is_ioapic_address, is_lapic_address}
use Rattle.board_calls.specs.Registrations.{source_of}
use Rattle.board_calls.specs.Processors.{pic_pin, end_vector}

-- ---- the 8259A pair

-- the pair after a write, and the pin that it acknowledged, if any
abbrev pub pair_written : Routing → Shape → PicPart → Effect Pair → Plan (Unit {0})
pair_written routing shape pic effect = do
  put_part Pic (with_pair pic effect.after)
  acknowledge_each routing shape (pic_pin effect.pin)

-- a write to a port of the pair; the pair takes length 1, and of another length nothing
abbrev pub pair_write : Routing → Shape → ℕ → ℕ → ℕ → Plan (Unit {0})
pair_write routing shape port len value = do
  pic ← see Pic
  (if nat_eq len 1 then pair_written routing shape pic (pair_write_to (pair_of pic) port value) else done tt)
  reply Done

-- the pair after a read, and the pin that a poll acknowledged, if any; the value is the reply
abbrev pub pair_gave : Routing → Shape → PicPart → Read Pair → Plan (Unit {0})
pair_gave routing shape pic read = do
  put_part Pic (with_pair pic read.after)
  acknowledge_each routing shape (pic_pin read.pin)
  reply (Value read.value)

-- a read of a port of the pair, which gives 0 in another length than 1
abbrev pub pair_read : Routing → Shape → ℕ → ℕ → Plan (Unit {0})
pair_read routing shape port len = do
  pic ← see Pic
  (if nat_eq len 1 then pair_gave routing shape pic (pair_read_from (pair_of pic) port) else reply (Value 0))

-- ---- the I/O APIC

-- a pin whose entry was written, if any, is looked at again: it is sent where it is due
abbrev pub resend_written : Shape → Option ℕ → Plan (Unit {0})
resend_written shape None = done tt
resend_written shape (Some pin) = do
  part ← see Ioapic
  resend shape.cpus pin (resend_of (ioapic_of part) pin)

-- the chip after a write
abbrev pub ioapic_written : Shape → IoapicPart → Written → Plan (Unit {0})
ioapic_written shape part written = do
  put_part Ioapic (with_ioapic part written.after)
  resend_written shape written.pin

-- a store to the I/O APIC, which takes length 4, and of another length nothing
abbrev pub ioapic_store : Shape → ℕ → ℕ → ℕ → Plan (Unit {0})
ioapic_store shape offset len value = do
  part ← see Ioapic
  (if nat_eq len 4 then ioapic_written shape part (write_to (ioapic_of part) offset value) else done tt)
  reply Done

-- a load from the I/O APIC, which gives 0 in another length than 4
abbrev pub ioapic_load : ℕ → ℕ → Plan (Unit {0})
ioapic_load offset len = do
  part ← see Ioapic
  reply (Value (if nat_eq len 4 then read_from (ioapic_of part) offset else 0))

-- ---- the caller's own local APIC

-- what a store brings about besides: the end of a vector, or a message to other processors
abbrev pub store_effects : Routing → Shape → ℕ → LapicEffect → Plan (Unit {0})
store_effects routing shape n effects.Plain = done tt
store_effects routing shape n (effects.Ended vector) = end_vector routing shape vector
store_effects routing shape n (effects.Send message) = do
  answer ← send shape.cpus message.message (Some (n, message.to)) ipi
  done tt

-- the local APIC after a store
abbrev pub lapic_stored : Routing → Shape → ℕ → LocalApic → LapicEffect → Plan (Unit {0})
lapic_stored routing shape n after effect = do
  put_part (Lapic n) after
  store_effects routing shape n effect

-- a store to the local APIC, which takes length 4, and of another length nothing
abbrev pub lapic_store : Routing → Shape → ℕ → ℕ → ℕ → ℕ → Plan (Unit {0})
lapic_store routing shape n offset len value = do
  apic ← see (Lapic n)
  (if nat_eq len 4 then lapic_stored routing shape n (store_to apic offset value) (store_effect apic offset value) else done tt)
  reply Done

-- a load from the local APIC, which gives 0 in another length than 4
abbrev pub lapic_load : ℕ → ℕ → ℕ → Plan (Unit {0})
lapic_load n offset len = do
  apic ← see (Lapic n)
  reply (Value (if nat_eq len 4 then load_of apic offset else 0))

-- ---- addresses of no chip

-- a counter that is rung: the trigger of an irqfd injects, another counter gains one, a full one staying full
abbrev pub ring_counter : Routing → Shape → ℕ → Option TriggerWord → Plan (Unit {0})
ring_counter routing shape counter None = change Counters (λ counts. signalled counts counter)
ring_counter routing shape counter (Some trigger) = do
  status ← inject shape.cpus (routing.targets trigger.gsi) (source_of trigger.resample) (λ pic. injected trigger.gsi pic)
  done tt

-- a write rings the ioeventfd that it fits; without one it is the monitor's
abbrev pub rung : Routing → Shape → Option ℕ → Plan (Unit {0})
rung routing shape None = reply Exit
rung routing shape (Some counter) = do
  say (Rang counter)
  ring_counter routing shape counter (routing.trigger counter)
  reply Done

-- a write to an address of no chip (KVM_IOEVENTFD)
abbrev pub ring : Routing → Shape → Space → ℕ → ℕ → ℕ → Plan (Unit {0})
ring routing shape space address len value = do
  registry ← see Registry
  rung routing shape (rung_by registry.ioevents space address len value)

-- ---- whose an address is

-- a processor writes to a port
abbrev pub port_out : Routing → Shape → ℕ → ℕ → ℕ → Plan (Unit {0})
port_out routing shape port len value =
    if is_port port then pair_write routing shape port len value else ring routing shape spaces.Port port len value

-- a processor reads a port; one of no chip is the monitor's
abbrev pub port_in : Routing → Shape → ℕ → ℕ → Plan (Unit {0})
port_in routing shape port len = if is_port port then pair_read routing shape port len else reply Exit

-- processor n writes to memory
abbrev pub store : Routing → Shape → ℕ → ℕ → ℕ → ℕ → Plan (Unit {0})
store routing shape n address len value =
    if is_ioapic_address address then ioapic_store shape (address - 0xfec00000) len value
    else if is_lapic_address address then lapic_store routing shape n (address - 0xfee00000) len value
    else ring routing shape spaces.Memory address len value

-- processor n reads memory; an address of no chip is the monitor's
abbrev pub load : ℕ → ℕ → ℕ → Plan (Unit {0})
load n address len =
    if is_ioapic_address address then ioapic_load (address - 0xfec00000) len
    else if is_lapic_address address then lapic_load n (address - 0xfee00000) len
    else reply Exit
