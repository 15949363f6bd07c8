-- The first steps of what a processor does with its own local APIC, each as a plan that ends with what the rest needs.
use Rattle.std.specs.Prelude.{ℕ, Bool, true, false, nat_eq, if◌then◌else◌, List, map, filter, Result, Ok, Err, Some, None}
use Rattle.std.specs.declared.option.Option.{Option}
use Rattle.std.specs.FinSet as set
use Rattle.irq_bits.specs.Members.{Numbers}
use Rattle.irq_base.specs.declared.event.Pin.{Pin}
use Rattle.irq_base.specs.declared.event.Pin.TheVariants as pins
use Rattle.irq_base.specs.declared.reply.Reply.{Reply}
use Rattle.irq_base.specs.declared.reply.Reply.TheVariants.{Nmi}
use Rattle.irq_base.specs.declared.shape.Part.TheVariants.{Pic, Ioapic, Lapic}
use Rattle.lapic.specs.declared.outcome.Effect.{Effect}
use Rattle.lapic.specs.declared.outcome.Effect.TheVariants.{Plain}
use Rattle.lapic.specs.Registers.{LocalApic}
use Rattle.lapic.specs.Priority.{giveable_of, given}
use Rattle.lapic.specs.Offsets.{store_to, store_effect}
use Rattle.pic_8259a.specs.declared.pair.Pair.{Pair}
use Rattle.pic_8259a.specs.Pair.{has_output}
use Rattle.board_model.specs.Chips.{pair_of, ioapic_of}
use Rattle.board_model.specs.Plan.{Plan, done, see, set as put_part, ◌>>=◌, ◌>>◌}
use Rattle.board_raise.specs.declared.lacks.Lacks.{Lacks}
use Rattle.board_calls.specs.Processors.{all_pins, pins_with, given_reply, hears_pair}

-- ---- it is changed

-- the local APIC becomes f of what it was, and the value tells something of what it was
abbrev pub changing : {A : Type 0} → ℕ → (LocalApic → LocalApic) → (LocalApic → A) → Plan A
changing n f told = do
  apic ← see (Lapic n)
  put_part (Lapic n) (f apic)
  done (told apic)

-- the local APIC after a store, and what that brings about
abbrev pub stored : ℕ → LocalApic → Effect → Plan Effect
stored n after effect = do
  put_part (Lapic n) after
  done effect

-- a store to the local APIC, whose value is what it brings about; in another length than 4 nothing is written
abbrev pub storing : ℕ → ℕ → ℕ → ℕ → Plan Effect
storing n offset len value = do
  apic ← see (Lapic n)
  (if nat_eq len 4 then stored n (store_to apic offset value) (store_effect apic offset value) else done Plain)

-- ---- a vector ends

-- the pins of the I/O APIC that are marked, in order
abbrev pub pins_marked : Numbers → List Pin
pins_marked marks = map pins.Ioapic (filter (set.contains marks) all_pins)

-- the pins of the I/O APIC whose entry has the vector
abbrev pub pins_seen : ℕ → Plan (List Pin)
pins_seen vector = do
  part ← see Ioapic
  done (pins_with (ioapic_of part) vector)

-- ---- a processor asks for its next interrupt

-- a pending NMI is taken
abbrev pub taking_nmi : ℕ → LocalApic → Plan (Option Reply)
taking_nmi n apic = do
  put_part (Lapic n) (record apic { nmi = false })
  done (Some Nmi)

-- the local APIC gives
abbrev pub giving : ℕ → LocalApic → Plan (Option Reply)
giving n apic = do
  put_part (Lapic n) (given apic (giveable_of apic))
  done (Some (given_reply (giveable_of apic)))

-- the pair gives where its output is active, else the local APIC
abbrev pub giving_unless_pair : ℕ → LocalApic → Plan (Option Reply)
giving_unless_pair n apic = do
  pic ← see Pic
  (if has_output (pair_of pic) then done None else giving n apic)

-- what the processor is answered where the pair does not give; none where it does
abbrev pub answering : ℕ → Plan (Option Reply)
answering n = do
  apic ← see (Lapic n)
  (if apic.nmi then taking_nmi n apic else if hears_pair n apic then giving_unless_pair n apic else giving n apic)

-- whether a pair in hand gives, if the processor hears it; where it is not in hand, it is lacking
abbrev pub pair_heard : Bool → Option Pair → Result Bool Lacks
pair_heard false pair = Ok false
pair_heard true None = Err (record { part = Pic })
pair_heard true (Some pair) = Ok (has_output pair)
