-- An acknowledge on the parts in hand: what it tells, and what it changes of them.
use Rattle.std.specs.Prelude.{◌≡◌, ℕ, ◌+◌, ◌≤◌, if◌then◌else◌, List, [], ◌++◌, length, Result, Ok, Err, Some, None, IfSome, is_some}
use Rattle.std.specs.Prelude.{option_map, true}
use Rattle.std.specs.declared.option.Option.{Option}
use Rattle.irq_base.specs.declared.event.Event.{Event}
use Rattle.irq_base.specs.declared.message.Message.{Message}
use Rattle.irq_base.specs.declared.shape.Part.{Part}
use Rattle.irq_base.specs.declared.shape.Part.TheVariants.{Registry, Counters, Tick, Pic, Ioapic}
use Rattle.irq_base.specs.declared.status.Status.{Status}
use Rattle.irq_base.specs.Room.{with_told}
use Rattle.ioapic_82093aa.specs.Pins.{entry_at, pin_acked, resend_of}
use Rattle.board_model.specs.Registry.{RegistryPart}
use Rattle.board_model.specs.Chips.{IoapicPart, ioapic_of, with_ioapic}
use Rattle.board_model.specs.Hand.{Parts, part_in}
use Rattle.board_model.specs.Plan.{Plan, done, see, set as put_part, ◌>>=◌, ◌>>◌}
use Rattle.board_model.specs.Run.{Log, Wishes, OnParts, gives, lacks, run_on}
use Rattle.board_raise.specs.declared.lacks.Lacks.{Lacks}
use Rattle.board_raise.specs.declared.parts.Parts as parts
use Rattle.board_raise.specs.Fit.{RegistrationsFit}
use Rattle.board_raise.specs.InHand.{parts_of, number_in}
use Rattle.board_raise.specs.Shown.{EndsWith, StopsAt, Place, events_at, replies_at}
use Rattle.board_ack.specs.Acknowledge.{see_concerned}

-- ---- what is told

-- a plan told these events after others, as far as there was room for them, and gave no reply; it left these parts and wishes
pub record IsAdded (old new : List Event) (after : Parts) (later : Wishes) (log : Log) (left : Parts) (others : Wishes) : Type 0 where
  pub events : new ≡ with_told old log.events
  pub replies : log.answers ≡ []
  pub parts : after ≡ left
  pub wishes : later ≡ others

-- a call did what the plan gives, or it names what the plan lacks
abbrev pub Adds : Result (Unit {0}) Lacks → List Event → List Event → Parts → Wishes → OnParts (Unit {0}) → Type 0
Adds (Ok _) old new after later (gives _ log left others) = IsAdded old new after later log left others
Adds (Ok _) old new after later (lacks part) = ⊥
Adds (Err l) old new after later o = StopsAt l.part o

-- where there is room for all its events, they are told whole
abbrev pub AddsAll : Result (Unit {0}) Lacks → List Event → List Event → OnParts (Unit {0}) → Type 0
AddsAll (Ok _) old new (gives _ log left others) = length old + length log.events ≤ 640 → new ≡ old ++ log.events
AddsAll (Ok _) old new (lacks part) = ⊥
AddsAll (Err l) old new o = Unit {0}

-- a tick that was injected, by its status
abbrev pub ShowsTick : Place → Result Status Lacks → Parts → Wishes → OnParts (Unit {0}) → Type 0
ShowsTick place (Ok status) after later o = EndsWith tt (events_at place status) (replies_at place status) after later o
ShowsTick place (Err l) after later o = StopsAt l.part o

-- ---- steps 2 and 3

-- the parts that a marked GSI concerns are in hand
pub record HoldsConcerned (q : Parts) : Type 0 where
  pub registry : is_some q.registry ≡ true
  pub counters : is_some q.counters ≡ true
  pub tick : is_some q.tick ≡ true
  pub pic : is_some q.pic ≡ true
  pub ioapic : is_some q.ioapic ≡ true

-- or one of them is lacking
abbrev pub SeesConcerned : Result (Unit {0}) Lacks → Parts → Type 0
SeesConcerned (Ok _) q = HoldsConcerned q
SeesConcerned (Err l) q = (ws : Wishes) → StopsAt l.part (run_on see_concerned q ws)

-- the registrations in hand name counters in hand
abbrev pub AreRegistered : Parts → Type 0
AreRegistered q =
    (registry : RegistryPart) (counts : List ℕ) → q.registry ≡ Some registry → q.counters ≡ Some counts →
    RegistrationsFit (length counts) registry

-- ---- step 4

-- remote IRR is cleared, and the value is the message that is to be sent again
abbrev pub clear_entry : ℕ → IoapicPart → Plan (Option Message)
clear_entry pin part = do
  put_part Ioapic (with_ioapic part (pin_acked (ioapic_of part) pin))
  done (resend_of (pin_acked (ioapic_of part) pin) pin)

-- the same of a level-triggered entry; of an edge-triggered one nothing is sent again
abbrev pub end_entry : ℕ → Plan (Option Message)
end_entry pin = do
  part ← see Ioapic
  (if (entry_at (ioapic_of part) pin).level then clear_entry pin part else done None)

-- the I/O APIC after that, and the message that is to be sent again
abbrev pub entry_ended : IoapicPart → ℕ → IoapicPart
entry_ended part pin = if (entry_at (ioapic_of part) pin).level then with_ioapic part (pin_acked (ioapic_of part) pin) else part

abbrev pub sent_again : IoapicPart → ℕ → Option Message
sent_again part pin = if (entry_at (ioapic_of part) pin).level then resend_of (pin_acked (ioapic_of part) pin) pin else None

-- ---- what is changed

-- all but the registry may change: the same parts are in hand, with as many counters and no more ticks pending, and each local
-- APIC stands where one stood, and has its number
pub record OnlyAcked (old new : parts.Parts) : Type 0 where
  pub held : (part : Part) → is_some (part_in (parts_of new) part) ≡ is_some (part_in (parts_of old) part)
  pub registry : new.registry ≡ old.registry
  pub counters : option_map length new.counters ≡ option_map length old.counters
  pub tick : (limit : ℕ) → IfSome old.tick (λ t. t.pending ≤ limit) → IfSome new.tick (λ t. t.pending ≤ limit)
  pub places : length new.lapics ≡ length old.lapics
  pub numbers : (n : ℕ) → number_in new.lapics n ≡ number_in old.lapics n
