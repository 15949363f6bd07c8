-- Which parts an acknowledge looks at or writes: they are the same whatever is wished.
use Rattle.std.specs.Prelude.{◌≡◌, ℕ, Bool, false, true, ◌&&◌, ◌||◌, nat_eq, List, [], ◌∷◌, Some, None}
use Rattle.std.specs.declared.option.Option.{Option}
use Rattle.irq_base.specs.declared.event.Pin.{Pin}
use Rattle.irq_base.specs.declared.event.Pin.TheVariants as pins
use Rattle.irq_base.specs.declared.message.Message.{Message}
use Rattle.irq_base.specs.declared.shape.Part.{Part}
use Rattle.irq_base.specs.declared.shape.Part.TheVariants.{Tick, Ioapic, Lapic}
use Rattle.irq_base.specs.declared.shape.Shape.{Shape}
use Rattle.ioapic_82093aa.specs.Pins.{entry_at, pin_acked, resend_of}
use Rattle.tick_reinject.specs.Ticks.{ack_injects}
use Rattle.board_model.specs.Board.{Board, is_same}
use Rattle.board_model.specs.Chips.{ioapic_of}
use Rattle.board_model.specs.Routing.{Routing}
use Rattle.board_model.specs.Plan.{Plan, ◌>>◌}
use Rattle.board_model.specs.Run.{Wishes, run, reaches}
use Rattle.board_raise.specs.ReachLaws.{of_message, of_raise}
use Rattle.board_ack.specs.Acknowledge.{tell_concerned, end_level, acknowledge, acknowledge_each}

-- the board after a plan; which of its processors a message is given to makes no difference to what is reached later
abbrev pub board_by : {A : Type 0} → Plan A → Board → Board
board_by plan b = (run plan b []).board

module _ (routing : Routing) (shape : Shape) where
  -- ---- signals

  -- what a raise of a GSI reaches
  abbrev pub of_gsi : Board → ℕ → Part → Bool
  of_gsi b gsi q = of_raise b (routing.targets gsi) shape.cpus q

  -- ---- an acknowledge

  -- the parts that a marked GSI concerns: all but the local APICs
  abbrev pub is_concerned : Part → Bool
  is_concerned (Lapic n) = false
  is_concerned q = true

  -- those whom the GSI of the pin concerns, where it is marked
  abbrev pub of_marked : Option ℕ → Part → Bool
  of_marked None q = false
  of_marked (Some gsi) q = routing.marked gsi && is_concerned q

  -- what a message reaches that is sent again, if there is one
  abbrev pub of_resend : Option Message → Part → Bool
  of_resend None q = false
  of_resend (Some message) q = of_message message None shape.cpus q

  -- the I/O APIC, where the pin is there, and what a level-triggered entry sends again once its remote IRR is clear
  abbrev pub of_level : Board → Pin → Part → Bool
  of_level b (pins.Pic pin) q = false
  of_level b (pins.Ioapic pin) q =
      is_same Ioapic q || ((entry_at (ioapic_of b.ioapic) pin).level && of_resend (resend_of (pin_acked (ioapic_of b.ioapic) pin) pin) q)

  -- the tick, where the GSI is its own, and what the next tick reaches where it is injected
  abbrev pub of_tick : Board → Option ℕ → Part → Bool
  of_tick b None q = false
  of_tick b (Some gsi) q = nat_eq gsi shape.tick && (is_same Tick q || (ack_injects b.tick && of_gsi b shape.tick q))

  -- what the acknowledge of a pin reaches, its messages being those that are sent after the steps before them
  abbrev pub of_acknowledge : Board → Pin → Part → Bool
  of_acknowledge b pin q =
      of_marked (routing.gsi_of pin) q
      || (of_level (board_by (tell_concerned routing (routing.gsi_of pin)) b) pin q
      || of_tick (board_by (tell_concerned routing (routing.gsi_of pin) >> end_level shape.cpus pin) b) (routing.gsi_of pin) q)

  -- the same of pins that are acknowledged one after another
  abbrev pub of_acknowledge_each : Board → List Pin → Part → Bool
  of_acknowledge_each b [] q = false
  of_acknowledge_each b (pin ∷ pins) q = of_acknowledge b pin q || of_acknowledge_each (board_by (acknowledge routing shape pin) b) pins q

-- an acknowledge of a pin, and of pins one after another, reach this, under all wishes
pub record AcknowledgeReaches (routing : Routing) (shape : Shape) (b : Board) (ws : Wishes) (q : Part) : Type 0 where
  pub one : (pin : Pin) → reaches (acknowledge routing shape pin) b ws q ≡ of_acknowledge routing shape b pin q
  pub each : (acked : List Pin) → reaches (acknowledge_each routing shape acked) b ws q ≡ of_acknowledge_each routing shape b acked q

abbrev pub AcknowledgesReachTheSame : Type 0
AcknowledgesReachTheSame =
    (routing : Routing) (shape : Shape) (b : Board) (ws : Wishes) (q : Part) → AcknowledgeReaches routing shape b ws q
