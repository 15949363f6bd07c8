-- How a processor takes and ends its interrupts (SDM volume 3, interrupt acceptance and end of interrupt; 8259A data sheet,
-- interrupt sequence; virtual wire mode through LINT0).
use Rattle.std.specs.Prelude.{ℕ, ◌/◌, ◌%◌, ◌^◌, Bool, false, not, ◌&&◌, nat_eq, if◌then◌else◌, List, [], ◌∷◌, ◌++◌, map, filter, Some, None}
use Rattle.std.specs.declared.option.Option.{Option}
use Rattle.irq_bits.specs.Members.{is_set, greatest_vector}
use Rattle.irq_base.specs.declared.event.Pin.{Pin}
use Rattle.irq_base.specs.declared.event.Pin.TheVariants as pins
use Rattle.irq_base.specs.declared.reply.Reply.{Reply}
use Rattle.irq_base.specs.declared.reply.Reply.TheVariants.{Vector, Extint, Nmi, Ended, Nothing}
use Rattle.irq_base.specs.declared.shape.Part.TheVariants.{Pic, Ioapic, Lapic}
use Rattle.irq_base.specs.declared.shape.Shape.{Shape}
use Rattle.pic_8259a.specs.declared.pair.AckedPins.{AckedPins}
use Rattle.pic_8259a.specs.Pair.{has_output, Cycle, cycle}
use Rattle.ioapic_82093aa.specs.declared.ioapic.Ioapic.{Ioapic as IoapicChip}
use Rattle.ioapic_82093aa.specs.Pins.{has_vector}
use Rattle.lapic.specs.Registers.{LocalApic}
use Rattle.lapic.specs.Priority.{giveable_of, given, without_service}
use Rattle.board_model.specs.Routing.{Routing}
use Rattle.board_model.specs.Chips.{PicPart, pair_of, with_pair, ioapic_of}
use Rattle.board_model.specs.Plan.{Plan, done, see, set as put_part, reply, ◌>>=◌, ◌>>◌}
use Rattle.board_raise.specs.Send.{numbers_below}
use Rattle.board_ack.specs.Acknowledge.{acknowledge_each}

-- ---- end of interrupt

-- the pins of the I/O APIC, 0 to 23
unfoldable pub all_pins : List ℕ
all_pins = numbers_below 24

-- the pins whose entry has the vector, masked or not, in order
abbrev pub pins_with : IoapicChip → ℕ → List Pin
pins_with chip vector = map pins.Ioapic (filter (λ pin. has_vector chip pin vector) all_pins)

-- each pin of the I/O APIC whose entry has the vector that ended is acknowledged, edge or level (after KVM)
abbrev pub end_vector : Routing → Shape → Option ℕ → Plan (Unit {0})
end_vector routing shape None = done tt
end_vector routing shape (Some vector) = do
  part ← see Ioapic
  acknowledge_each routing shape (pins_with (ioapic_of part) vector)

-- the answer of an end of interrupt
abbrev pub ended_reply : Option ℕ → Reply
ended_reply None = Nothing
ended_reply (Some vector) = Ended vector

-- a processor ends its interrupt: the greatest vector goes out of service
abbrev pub end_of_interrupt : Routing → Shape → ℕ → Plan (Unit {0})
end_of_interrupt routing shape n = do
  apic ← see (Lapic n)
  put_part (Lapic n) (without_service apic (greatest_vector apic.isr))
  end_vector routing shape (greatest_vector apic.isr)
  reply (ended_reply (greatest_vector apic.isr))

-- ---- acknowledge cycles of the pair

-- a pin of the pair, if there is one, as a list
abbrev pub pic_pin : Option ℕ → List Pin
pic_pin None = []
pic_pin (Some pin) = pins.Pic pin ∷ []

-- the pins that a cycle acknowledged under automatic EOI, the master's before the slave's
abbrev pub cycle_pins : AckedPins → List Pin
cycle_pins acked = pic_pin acked.master ++ pic_pin acked.slave

-- a cycle is made, and its reply given
abbrev pub cycle_made : Routing → Shape → PicPart → Cycle → Reply → Plan (Unit {0})
cycle_made routing shape pic cycle answer = do
  put_part Pic (with_pair pic cycle.after)
  acknowledge_each routing shape (cycle_pins cycle.pins)
  reply answer

-- processor 0 makes an acknowledge cycle of the pair
abbrev pub inta : Routing → Shape → Plan (Unit {0})
inta routing shape = do
  pic ← see Pic
  cycle_made routing shape pic (cycle (pair_of pic)) (Vector (cycle (pair_of pic)).vector)

-- ---- what a processor is given

-- the answer of what the local APIC gives
abbrev pub given_reply : Option ℕ → Reply
given_reply None = Nothing
given_reply (Some vector) = Vector vector

-- the local APIC gives the greatest request whose class exceeds that of PPR, if there is one
abbrev pub give : ℕ → LocalApic → Plan (Unit {0})
give n apic = do
  put_part (Lapic n) (given apic (giveable_of apic))
  reply (given_reply (giveable_of apic))

-- whether LINT0 lets the pair through: it is not masked (bit 16), and its mode is ExtINT (bits 10 to 8 are 111); SVR does not
-- mask it (this board's own rule)
abbrev pub lets_through : LocalApic → Bool
lets_through apic = not (is_set apic.registers.lint0 16) && nat_eq (apic.registers.lint0 / 2 ^ 8 % 8) 7

-- the pair reaches processor 0 alone
abbrev pub hears_pair : ℕ → LocalApic → Bool
hears_pair n apic = nat_eq n 0 && lets_through apic

-- the pair gives its vector where its output is active, else the local APIC gives
abbrev pub give_of_pair : Routing → Shape → ℕ → LocalApic → Plan (Unit {0})
give_of_pair routing shape n apic = do
  pic ← see Pic
  (if has_output (pair_of pic)
      then cycle_made routing shape pic (cycle (pair_of pic)) (Extint (cycle (pair_of pic)).vector)
      else give n apic)

-- a pending NMI is taken
abbrev pub take_nmi : ℕ → LocalApic → Plan (Unit {0})
take_nmi n apic = do
  put_part (Lapic n) (record apic { nmi = false })
  reply Nmi

-- a processor asks for its next interrupt: a pending NMI, else one of the pair through LINT0, else what the local APIC gives
abbrev pub next_interrupt : Routing → Shape → ℕ → Plan (Unit {0})
next_interrupt routing shape n = do
  apic ← see (Lapic n)
  (if apic.nmi then take_nmi n apic else if hears_pair n apic then give_of_pair routing shape n apic else give n apic)
