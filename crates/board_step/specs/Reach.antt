-- Which parts of a board a call reaches, as a table (this board's own rule). The routing table, triggers and the GSIs of pins
-- are published words: to read them reaches no part.
use Rattle.std.specs.Prelude.{ℕ, ◌-◌, Bool, true, false, not, ◌&&◌, ◌||◌, nat_eq, nat_lt, if◌then◌else◌, List, slice_index, is_some, Some, None}
use Rattle.std.specs.declared.option.Option.{Option}
use Rattle.irq_bits.specs.Members.{greatest_vector}
use Rattle.irq_base.specs.Refusals.{first_of}
use Rattle.irq_base.specs.declared.call.Call.{Call}
use Rattle.irq_base.specs.declared.call.Call.TheVariants as calls
use Rattle.irq_base.specs.declared.call.Caller.{Caller}
use Rattle.irq_base.specs.declared.call.Space.{Space}
use Rattle.irq_base.specs.declared.call.Space.TheVariants as spaces
use Rattle.irq_base.specs.declared.event.Pin.{Pin}
use Rattle.irq_base.specs.declared.shape.Part.{Part}
use Rattle.irq_base.specs.declared.shape.Part.TheVariants.{Registry, Counters, Tick, Pic, Ioapic, Lapic}
use Rattle.irq_base.specs.declared.shape.Shape.{Shape}
use Rattle.pic_8259a.specs.Pair.{is_port, has_output, cycle, write_to as pair_write_to, read_from as pair_read_from}
use Rattle.ioapic_82093aa.specs.Pins.{Written, write_to, resend_of}
use Rattle.lapic.specs.declared.outcome.Effect.{Effect}
use Rattle.lapic.specs.declared.outcome.Effect.TheVariants as effects
use Rattle.lapic.specs.Registers.{LocalApic}
use Rattle.lapic.specs.Offsets.{store_effect}
use Rattle.msi_decode.specs.Messages.{message_in}
use Rattle.tick_reinject.specs.Ticks.{tick_injects}
use Rattle.irqfd_set.specs.declared.irqfds.Irqfd.{Irqfd}
use Rattle.irqfd_set.specs.Rows.{named_row, without_row}
use Rattle.ioevent_set.specs.Rows.{rung_by}
use Rattle.board_model.specs.declared.trigger.TriggerWord.{TriggerWord}
use Rattle.board_model.specs.Board.{Board, part_of, is_same}
use Rattle.board_model.specs.Chips.{pair_of, IoapicPart, ioapic_of, with_ioapic}
use Rattle.board_model.specs.Routing.{Routing, routing_of_registry}
use Rattle.board_raise.specs.ReachLaws.{of_message, of_fall}
use Rattle.board_ack.specs.ReachLaws.{of_gsi, of_resend, of_acknowledge_each}
use Rattle.board_calls.specs.Refusals.{is_ioapic_address, is_lapic_address, range_reasons, assign_reasons}
use Rattle.board_calls.specs.Registrations.{was_last_resampler}
use Rattle.board_calls.specs.Processors.{pins_with, pic_pin, cycle_pins, hears_pair}
use Rattle.board_calls.specs.Calls.{number_of}

-- the rows of all calls; what pins reach that are acknowledged one after another is a row of its own
module _ (of_acks : Routing → Shape → Board → List Pin → Part → Bool) (routing : Routing) (shape : Shape) where
  -- ---- an end of interrupt

  -- where a vector ends the I/O APIC, and each of its pins that has the vector
  abbrev pub of_end : Board → Option ℕ → Part → Bool
  of_end b None q = false
  of_end b (Some vector) q = is_same Ioapic q || of_acks routing shape b (pins_with (ioapic_of b.ioapic) vector) q

  -- ---- counters and registrations

  -- a counter: its own count, or where it is a trigger what its GSI reaches
  abbrev pub of_counter : Board → Option TriggerWord → Part → Bool
  of_counter b None q = is_same Counters q
  of_counter b (Some trigger) q = of_gsi routing shape b trigger.gsi q

  -- a write of 0 to a trigger reaches nothing
  abbrev pub of_write : Board → Option TriggerWord → ℕ → Part → Bool
  of_write b None n q = is_same Counters q
  of_write b (Some trigger) n q = not (nat_eq n 0) && of_gsi routing shape b trigger.gsi q

  -- whether an irqfd that is made injects: it is not refused, and its trigger has a count
  abbrev pub does_inject : Board → ℕ → Option ℕ → Bool
  does_inject b trigger resample =
      not (is_some (first_of (assign_reasons b.registry trigger resample))) && nat_lt 0 (slice_index b.counters trigger)

  -- whether with this row, if there is one, the last resampler of its GSI leaves
  abbrev pub does_release : List Irqfd → ℕ → ℕ → Option Irqfd → Bool
  does_release rows trigger gsi None = false
  does_release rows trigger gsi (Some row) = was_last_resampler row (without_row rows trigger gsi)

  -- ---- accesses

  -- an access to the pair, and the pin that it acknowledges, if any; one of another length than 1 acknowledges none
  abbrev pub of_pair : Board → ℕ → Option ℕ → Part → Bool
  of_pair b len pin q = is_same Pic q || (nat_eq len 1 && of_acks routing shape b (pic_pin pin) q)

  -- a store to the I/O APIC, and what the entry that is written sends again, by the chip after it
  abbrev pub of_written : IoapicPart → Written → Part → Bool
  of_written part written q = of_pin_written written.pin
    where
      of_pin_written : Option ℕ → Bool
      of_pin_written None = false
      of_pin_written (Some pin) = of_resend routing shape (resend_of (ioapic_of (with_ioapic part written.after)) pin) q

  -- what a store to the local APIC of processor n brings about
  abbrev pub of_effect : Board → ℕ → Effect → Part → Bool
  of_effect b n effects.Plain q = false
  of_effect b n (effects.Ended vector) q = of_end b vector q
  of_effect b n (effects.Send ipi) q = of_message ipi.message (Some (n, ipi.to)) shape.cpus q

  -- the ioeventfd that a write rings, if any
  abbrev pub of_rung : Board → Option ℕ → Part → Bool
  of_rung b None q = false
  of_rung b (Some counter) q = of_counter b (routing.trigger counter) q

  -- a write to an address of no chip
  abbrev pub of_ring : Board → Space → ℕ → ℕ → ℕ → Part → Bool
  of_ring b space address len value q = is_same Registry q || of_rung b (rung_by b.registry.ioevents space address len value) q

  -- a store, by whose address it is
  abbrev pub of_store : Board → ℕ → ℕ → ℕ → ℕ → Part → Bool
  of_store b n address len value q =
      if is_ioapic_address address then is_same Ioapic q ||
      (nat_eq len 4 && of_written b.ioapic (write_to (ioapic_of b.ioapic) (address - 0xfec00000) value) q)
      else if is_lapic_address address then is_same (Lapic n) q ||
      (nat_eq len 4 && of_effect b n (store_effect (part_of b (Lapic n)) (address - 0xfee00000) value) q)
      else of_ring b spaces.Memory address len value q

  -- a load, by whose address it is
  abbrev pub of_load : ℕ → ℕ → Part → Bool
  of_load n address q =
      if is_ioapic_address address then is_same Ioapic q
      else if is_lapic_address address then is_same (Lapic n) q
      else false

  -- ---- interrupts of a processor

  -- a cycle of the pair, and the pins that it acknowledges
  abbrev pub of_cycle : Board → Part → Bool
  of_cycle b q = of_acks routing shape b (cycle_pins (cycle (pair_of b.pic)).pins) q

  -- the processor's local APIC; and the pair, where no NMI is pending and LINT0 of processor 0 lets it through
  abbrev pub of_ack : Board → ℕ → LocalApic → Part → Bool
  of_ack b n apic q =
      is_same (Lapic n) q ||
      ((not apic.nmi && hears_pair n apic) && (is_same Pic q || (has_output (pair_of b.pic) && of_cycle b q)))

  -- ---- the table

  -- what a call of the caller with that number reaches, its arguments being in range
  abbrev pub of_call : Board → ℕ → Call → Part → Bool
  of_call b n (calls.Line gsi line true) q = of_gsi routing shape b gsi q
  of_call b n (calls.Line gsi line false) q = of_fall (routing.targets gsi) q
  of_call b n (calls.Msi address payload) q = of_message (message_in address payload) None shape.cpus q
  of_call b n (calls.Write counter count) q = of_write b (routing.trigger counter) count q
  of_call b n (calls.Take counter) q = is_same Counters q
  of_call b n (calls.Assign trigger gsi resample) q =
      is_same Registry q || (is_same Counters q || (does_inject b trigger resample && of_gsi routing shape b gsi q))
  of_call b n (calls.Deassign trigger gsi) q =
      is_same Registry q ||
      (does_release b.registry.irqfds trigger gsi (named_row b.registry.irqfds trigger gsi) && of_fall (routing.targets gsi) q)
  of_call b n (calls.Reroute rows) q = is_same Registry q || (is_same Pic q || is_same Ioapic q)
  of_call b n (calls.Attach space address len counter want) q = is_same Registry q
  of_call b n (calls.Detach space address len counter want) q = is_same Registry q
  of_call b n (calls.Watch counter gsi) q = is_same Registry q
  of_call b n (calls.Unwatch counter gsi) q = is_same Registry q
  of_call b n calls.Tick q = is_same Tick q || (tick_injects b.tick && of_gsi routing shape b shape.tick q)
  of_call b n (calls.TickMode reinject) q = is_same Tick q
  of_call b n (calls.PortOut port len value) q =
      if is_port port then of_pair b len (pair_write_to (pair_of b.pic) port value).pin q else of_ring b spaces.Port port len value q
  of_call b n (calls.PortIn port len) q = if is_port port then of_pair b len (pair_read_from (pair_of b.pic) port).pin q else false
  of_call b n (calls.Store address len value) q = of_store b n address len value q
  of_call b n (calls.Load address len) q = of_load n address q
  of_call b n calls.Ack q = of_ack b n (part_of b (Lapic n)) q
  of_call b n calls.Inta q = is_same Pic q || of_cycle b q
  of_call b n calls.Eoi q = is_same (Lapic n) q || of_end b (greatest_vector (part_of b (Lapic n)).isr) q

-- what a call reaches on a board by that row of acknowledges; one whose arguments are out of range reaches nothing
abbrev pub reach_by : (Routing → Shape → Board → List Pin → Part → Bool) → Board → Caller → Call → Part → Bool
reach_by of_acks b caller call q =
    not (is_some (first_of (range_reasons b.shape call)))
    && of_call of_acks (routing_of_registry b.registry b.shape.tick) b.shape b (number_of caller) call q

-- what a call reaches on a board, pins reaching what each of their acknowledges does on the board that those before it left
abbrev pub reach : Board → Caller → Call → Part → Bool
reach b caller call q = reach_by of_acknowledge_each b caller call q
