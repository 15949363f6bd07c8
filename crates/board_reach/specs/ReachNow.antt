-- Which parts a call reaches, by the board as it is before the call: a table without runs (this board's own rule).
use Rattle.std.specs.Prelude.{◌≡◌, ℕ, Bool, ◌||◌, if◌then◌else◌, List, Some, None}
use Rattle.std.specs.List.{list_any}
use Rattle.std.specs.declared.option.Option.{Option}
use Rattle.irq_base.specs.declared.call.Call.{Call}
use Rattle.irq_base.specs.declared.call.Caller.{Caller}
use Rattle.irq_base.specs.declared.event.Pin.{Pin}
use Rattle.irq_base.specs.declared.event.Pin.TheVariants as pins
use Rattle.irq_base.specs.declared.message.Source.TheVariants.{Resample}
use Rattle.irq_base.specs.declared.shape.Part.{Part}
use Rattle.irq_base.specs.declared.shape.Shape.{Shape}
use Rattle.irqfd_set.specs.Rows.{has_resampler}
use Rattle.board_model.specs.Board.{Board}
use Rattle.board_model.specs.Chips.{IoapicPart}
use Rattle.board_model.specs.Routing.{Routing}
use Rattle.board_raise.specs.Signal.{ioapic_let_go}
use Rattle.board_ack.specs.OnHand.{entry_ended}
use Rattle.board_ack.specs.ReachLaws.{of_marked, of_level, of_tick}
use Rattle.board_step.specs.Reach.{reach_by, reach}
use Rattle.board_step.specs.Sound.{IsSound}

-- the I/O APIC once Resample has let go of the pin, if there is one
abbrev pub pin_freed : IoapicPart → Option ℕ → IoapicPart
pin_freed part None = part
pin_freed part (Some pin) = ioapic_let_go part pin Resample

-- the I/O APIC once remote IRR of the pin is cleared, where its entry is level-triggered; nothing is sent again
abbrev pub part_cleared : IoapicPart → Pin → IoapicPart
part_cleared part (pins.Pic pin) = part
part_cleared part (pins.Ioapic pin) = entry_ended part pin

abbrev pub cleared : Board → Pin → Board
cleared b pin = record b { ioapic = part_cleared b.ioapic pin }

module _ (routing : Routing) (shape : Shape) where
  -- the I/O APIC once Resample has let go of the GSI's pin, where the GSI has resamplers
  abbrev pub part_freed : Board → Option ℕ → IoapicPart
  part_freed b None = b.ioapic
  part_freed b (Some gsi) = if has_resampler b.registry.irqfds gsi then pin_freed b.ioapic (routing.targets gsi).ioapic else b.ioapic

  -- the board with that I/O APIC
  abbrev pub freed : Board → Option ℕ → Board
  freed b gsi = record b { ioapic = part_freed b gsi }

  -- what the acknowledge of a pin reaches: a marked GSI's parts; what its entry sends again, Resample gone; and what the next
  -- tick reaches where it is injected, Resample gone and remote IRR clear
  abbrev pub of_acknowledge_now : Board → Pin → Part → Bool
  of_acknowledge_now b pin q =
      of_marked routing shape (routing.gsi_of pin) q
      || (of_level routing shape (freed b (routing.gsi_of pin)) pin q
      || of_tick routing shape (cleared (freed b (routing.gsi_of pin)) pin) (routing.gsi_of pin) q)

  -- the same of pins that are acknowledged one after another, each by the board as it is before the first
  abbrev pub of_acknowledges_now : Board → List Pin → Part → Bool
  of_acknowledges_now b acked q = list_any (λ pin. of_acknowledge_now b pin q) acked

-- what a call reaches: the table with that row of acknowledges
abbrev pub reach_now : Board → Caller → Call → Part → Bool
reach_now b caller call q = reach_by of_acknowledges_now b caller call q

-- on a sound board what a call reaches is told by the board before it, without runs
abbrev pub ReachIsNow : Type 0
ReachIsNow = (b : Board) (caller : Caller) (call : Call) (q : Part) → IsSound b → reach b caller call q ≡ reach_now b caller call q
