-- The first steps of accesses of the guest, each as a plan that ends with what the rest needs.
use Rattle.std.specs.Prelude.{ℕ, nat_eq, if◌then◌else◌, None}
use Rattle.std.specs.declared.option.Option.{Option}
use Rattle.irq_base.specs.declared.call.Space.{Space}
use Rattle.irq_base.specs.declared.message.Message.{Message}
use Rattle.irq_base.specs.declared.reply.Reply.{Reply}
use Rattle.irq_base.specs.declared.shape.Part.TheVariants.{Registry, Pic, Ioapic}
use Rattle.irq_base.specs.declared.shape.Shape.{Shape}
use Rattle.pic_8259a.specs.declared.pair.AckedPins.{AckedPins}
use Rattle.pic_8259a.specs.declared.pair.Pair.{Pair}
use Rattle.pic_8259a.specs.Accesses.{Effect, Read}
use Rattle.pic_8259a.specs.Pair.{write_to as pair_write_to, read_from as pair_read_from, cycle}
use Rattle.ioapic_82093aa.specs.Pins.{Written, write_to, resend_of}
use Rattle.ioevent_set.specs.Rows.{rung_by}
use Rattle.board_model.specs.Routing.{Routing}
use Rattle.board_model.specs.Chips.{PicPart, pair_of, with_pair, IoapicPart, ioapic_of, with_ioapic}
use Rattle.board_model.specs.Plan.{Plan, done, see, set as put_part, ◌>>=◌, ◌>>◌}
use Rattle.board_calls.specs.Processors.{cycle_made}

-- ---- the 8259A pair

-- the pair after a write; the value is the pin that it acknowledged, if any
abbrev pub pair_after : PicPart → Effect Pair → Plan (Option ℕ)
pair_after pic effect = do
  put_part Pic (with_pair pic effect.after)
  done effect.pin

-- a write to a port of the pair; of another length than 1 nothing is written
abbrev pub writing : ℕ → ℕ → ℕ → Plan (Option ℕ)
writing port len value = do
  pic ← see Pic
  (if nat_eq len 1 then pair_after pic (pair_write_to (pair_of pic) port value) else done None)

-- the pair after a read; the value is what was read, and the pin that a poll acknowledged, if any
abbrev pub pair_polled : PicPart → Read Pair → Plan (ℕ × Option ℕ)
pair_polled pic read = do
  put_part Pic (with_pair pic read.after)
  done (read.value, read.pin)

-- a read of a port of the pair, which gives 0 in another length than 1
abbrev pub reading : ℕ → ℕ → Plan (ℕ × Option ℕ)
reading port len = do
  pic ← see Pic
  (if nat_eq len 1 then pair_polled pic (pair_read_from (pair_of pic) port) else done (0, None))

-- an acknowledge cycle of the pair; the value is its vector, and the pins that it acknowledged
abbrev pub cycling : Plan (ℕ × AckedPins)
cycling = do
  pic ← see Pic
  put_part Pic (with_pair pic (cycle (pair_of pic)).after)
  done ((cycle (pair_of pic)).vector, (cycle (pair_of pic)).pins)

-- the whole cycle, whose vector is answered in this reply
abbrev pub cycle_answered : Routing → Shape → (ℕ → Reply) → Plan (Unit {0})
cycle_answered routing shape answer = do
  pic ← see Pic
  cycle_made routing shape pic (cycle (pair_of pic)) (answer (cycle (pair_of pic)).vector)

-- ---- the I/O APIC

-- the chip after a write; the value is the pin whose entry was written, if any
abbrev pub ioapic_after : IoapicPart → Written → Plan (Option ℕ)
ioapic_after part written = do
  put_part Ioapic (with_ioapic part written.after)
  done written.pin

-- a store to the I/O APIC; of another length than 4 nothing is written
abbrev pub storing : ℕ → ℕ → ℕ → Plan (Option ℕ)
storing offset len value = do
  part ← see Ioapic
  (if nat_eq len 4 then ioapic_after part (write_to (ioapic_of part) offset value) else done None)

-- the message that a pin is to send again, if it is
abbrev pub due_again : ℕ → Plan (Option Message)
due_again pin = do
  part ← see Ioapic
  done (resend_of (ioapic_of part) pin)

-- ---- addresses of no chip

-- the counter of the ioeventfd that a write fits, if there is one
abbrev pub ringing : Space → ℕ → ℕ → ℕ → Plan (Option ℕ)
ringing space address len value = do
  registry ← see Registry
  done (rung_by registry.ioevents space address len value)
