-- All parts of a board, lent to be read, and the board that has them (this board's own).
use Rattle.std.specs.Prelude.{◌≡◌, ℕ, ◌^◌, ◌<◌, ◌≤◌, Bool, true, false, AllPairs, IfSome, ◌&&◌, not, ◌||◌, nat_eq, if◌then◌else◌, Some, None, List, length, map, is_some, unwrap_or}
use Rattle.std.specs.List.{list_any}
use Rattle.std.specs.declared.option.Option.{Option}
use Rattle.irq_base.specs.declared.call.Call.TheVariants.{PortOut, PortIn}
use Rattle.irq_base.specs.declared.call.Space.{Space}
use Rattle.irq_base.specs.declared.event.Pin.{Pin}
use Rattle.irq_base.specs.declared.event.Pin.TheVariants as pins
use Rattle.irq_base.specs.declared.shape.Part.{Part}
use Rattle.irq_base.specs.declared.shape.Part.TheVariants.{Pic, Lapic}
use Rattle.irq_base.specs.declared.shape.Shape.{Shape}
use Rattle.ioapic_82093aa.specs.declared.ioapic.Ioapic.{Ioapic}
use Rattle.pic_8259a.specs.declared.pair.Pair.{Pair}
use Rattle.pic_8259a.specs.Pair.{has_output}
use Rattle.ioapic_82093aa.specs.Pins.{entry_at, pin_acked, resend_of, has_vector, write_to}
use Rattle.irqfd_set.specs.declared.irqfds.Irqfd.{Irqfd}
use Rattle.irqfd_set.specs.Rows.{has_trigger, named_row}
use Rattle.ioevent_set.specs.Rows.{rung_by}
use Rattle.lapic.specs.Registers.{LocalApic, power_on}
use Rattle.board_model.specs.Board.{Board, part_of, is_same}
use Rattle.board_model.specs.Chips.{pair_of, ioapic_of as chip_of}
use Rattle.board_model.specs.Registry.{RegistryPart}
use Rattle.board_model.specs.Routing.{Routing, routing_of_registry}
use Rattle.board_raise.specs.declared.parts.Parts as parts
use Rattle.board_raise.specs.Fit.{RegistrationsFit, PairFits, IoapicFits, PinsFit}
use Rattle.board_raise.specs.InHand.{registry_of, pic_of, ioapic_of, parts_of, chips_of}
use Rattle.board_raise.specs.OnRow.{apic_in}
use Rattle.board_ack.specs.ReachLaws.{of_resend, of_level, of_tick}
use Rattle.board_calls.specs.Refusals.{is_trigger, is_signalled, resample_clashes}
use Rattle.board_step.specs.Reach.{of_written, of_rung, of_cycle, of_call, does_release}
use Rattle.board_reach.specs.ReachNow.{cleared, of_acknowledge_now, of_acknowledges_now}
use Rattle.board_step.specs.Whole.{IsWhole}
use Rattle.board_reach.specs.declared.seen.Seen.{Seen}
use Rattle.irq_bits.specs.declared.limits.TheConstants.{MAX_CPUS}

-- the board of these parts; what it has answered plays no role
abbrev pub board_seen : Seen → Board
board_seen s = record {
  shape = s.shape.now;
  registry = registry_of s.registry.now;
  counters = s.counters.now;
  tick = s.tick.now;
  pic = pic_of s.pic.now;
  ioapic = ioapic_of s.ioapic.now;
  lapics = map (λ place. unwrap_or place (power_on 0)) s.lapics.now;
  length = 0;
  publications = 0;
}

-- its routing
abbrev pub routing_seen : Seen → Routing
routing_seen s = routing_of_registry (registry_of s.registry.now) s.shape.now.tick

-- the parts are those of a board: registrations name counters and GSIs that there are, triggers differ, pins are high where
-- they are held, and no local APIC is missing
pub record SeenFits (s : Seen) : Type 0 where
  pub cpus : s.shape.now.cpus ≤ MAX_CPUS
  pub tick : s.shape.now.tick < 4096
  pub counted : length s.counters.now ≡ s.shape.now.counters
  pub registrations : RegistrationsFit s.shape.now.counters (registry_of s.registry.now)
  pub distinct : AllPairs (λ (row other : Irqfd). has_trigger row.trigger other ≡ false) s.registry.now.irqfds
  pub pic : PairFits s.pic.now.pair s.pic.now.levels
  pub ioapic : IoapicFits s.ioapic.now.ioapic s.ioapic.now.levels
  pub places : length s.lapics.now ≡ s.shape.now.cpus
  pub pending : s.tick.now.pending ≤ 2 ^ 40
  pub lapics : (n : ℕ) → n < s.shape.now.cpus → is_some (apic_in s.lapics.now n) ≡ true

-- the parts in hand are those of a board of that shape, and none is missing
pub record PartsFit (shape : Shape) (p : parts.Parts) : Type 0 where
  pub cpus : shape.cpus ≤ MAX_CPUS
  pub tick : shape.tick < 4096
  pub whole : IsWhole shape (parts_of p)
  pub counted : IfSome p.counters (λ counts. length counts ≡ shape.counters)
  pub registrations : IfSome p.registry (λ r. RegistrationsFit shape.counters (registry_of r))
  pub distinct : IfSome p.registry (λ r. AllPairs (λ (row other : Irqfd). has_trigger row.trigger other ≡ false) r.irqfds)
  pub pins : PinsFit (chips_of p)
  pub pending : IfSome p.tick (λ tick. tick.pending ≤ 2 ^ 40)

-- ---- rows of the table on that board

-- a row of the table with the acknowledges' row that runs nothing
abbrev pub row : {X : Type 0} → ((Routing → Shape → Board → List Pin → Part → Bool) → Routing → Shape → Board → X) → Seen → X
row f s = f of_acknowledges_now (routing_seen s) s.shape.now (board_seen s)

-- what pins reach that are acknowledged one after another
abbrev pub acks_row : Seen → List Pin → Part → Bool
acks_row s = of_acknowledges_now (routing_seen s) s.shape.now (board_seen s)

-- the pair, the I/O APIC and a local APIC of that board
abbrev pub pair_seen : Seen → Pair
pair_seen s = pair_of (pic_of s.pic.now)

abbrev pub chip_seen : Seen → Ioapic
chip_seen s = chip_of (ioapic_of s.ioapic.now)

abbrev pub lapic_seen : Seen → ℕ → LocalApic
lapic_seen s n = part_of (board_seen s) (Lapic n)

-- what a store to the I/O APIC sends again
abbrev pub written_row : Seen → ℕ → ℕ → Part → Bool
written_row s offset value =
    of_written of_acknowledges_now (routing_seen s) s.shape.now (ioapic_of s.ioapic.now) (write_to (chip_seen s) offset value)

-- what a write to an address of no chip rings
abbrev pub rung_row : Seen → Space → ℕ → ℕ → ℕ → Part → Bool
rung_row s space address len value = row of_rung s (rung_by s.registry.now.ioevents space address len value)

-- whether with the row of a trigger and a GSI, if there is one, the last resampler of the GSI leaves
abbrev pub release_row : Seen → ℕ → ℕ → Bool
release_row s trigger gsi =
    let rows = s.registry.now.irqfds in
    does_release of_acknowledges_now (routing_seen s) s.shape.now rows trigger gsi (named_row rows trigger gsi)

-- ---- rows of acknowledges in part

-- what the entry of a pin sends again, where it is level-triggered, once its remote IRR is clear
abbrev pub of_entry : Seen → ℕ → Part → Bool
of_entry s pin q =
    (entry_at (chip_of (ioapic_of s.ioapic.now)) pin).level
    && of_resend (routing_seen s) s.shape.now (resend_of (pin_acked (chip_of (ioapic_of s.ioapic.now)) pin) pin) q

-- what the steps of an acknowledge reach after those whom the GSI concerns
abbrev pub of_steps : Seen → Pin → Option ℕ → Part → Bool
of_steps s pin gsi q =
    of_level (routing_seen s) s.shape.now (board_seen s) pin q || of_tick (routing_seen s) s.shape.now (cleared (board_seen s) pin) gsi q

-- whether the entry of a pin has the vector, and its acknowledge reaches the part
abbrev pub is_ended : Seen → ℕ → Part → ℕ → Bool
is_ended s vector q pin =
    has_vector (chip_of (ioapic_of s.ioapic.now)) pin vector
    && of_acknowledge_now (routing_seen s) s.shape.now (board_seen s) (pins.Ioapic pin) q

-- ---- rows of registrations in part

-- whether a counter is the trigger of one of these irqfds
abbrev pub is_trigger_in : List Irqfd → ℕ → Bool
is_trigger_in rows counter = list_any (has_trigger counter) rows

-- whether an irqfd of that trigger and that resample counter is not refused
abbrev pub is_free : RegistryPart → ℕ → Option ℕ → Bool
is_free registry trigger resample =
    not (is_trigger registry trigger) && not (is_signalled registry trigger || resample_clashes registry trigger resample)

-- the irqfd, if there is one, where it has the GSI
abbrev pub if_of : ℕ → Option Irqfd → Option Irqfd
if_of gsi None = None
if_of gsi (Some row) = if nat_eq row.gsi gsi then Some row else None

-- ---- rows of accesses

-- a write to a port, and a read of one
abbrev pub of_port_out : Seen → ℕ → ℕ → ℕ → Part → Bool
of_port_out s port len value q = row of_call s 0 (PortOut port len value) q

abbrev pub of_port_in : Seen → ℕ → ℕ → Part → Bool
of_port_in s port len q = row of_call s 0 (PortIn port len) q

-- the pair, and where its output is active the pins of a cycle
abbrev pub of_pair_given : Seen → Part → Bool
of_pair_given s q =
    is_same Pic q
    || (has_output (pair_of (pic_of s.pic.now)) && row of_cycle s q)
