-- Histories of a running board are legal histories of its shape, and what stands along them.
use Rattle.std.specs.Prelude.{◌≡◌, ℕ, true, List, length, slice_get, All, count_by, is_some, Some, None}
use Rattle.irq_base.specs.Callers.{is_allowed}
use Rattle.irq_base.specs.declared.call.Call.{Call}
use Rattle.irq_base.specs.declared.call.Caller.{Caller}
use Rattle.irq_base.specs.declared.event.Event.{Event}
use Rattle.irq_base.specs.declared.lists.Entry.{Entry}
use Rattle.irq_base.specs.declared.reply.Reply.{Reply}
use Rattle.irq_base.specs.declared.shape.Part.{Part}
use Rattle.irq_base.specs.declared.shape.Part.TheVariants.{Registry, Counters, Tick, Pic, Ioapic, Lapic}
use Rattle.irq_base.specs.declared.shape.Shape.{Shape}
use Rattle.std.specs.declared.option.Option.{Option}
use Rattle.board_model.specs.Board.{ValueOf, Board}
use Rattle.board_model.specs.Hand.{part_in, all_parts}
use Rattle.board_raise.specs.Fit.{InLimits}
use Rattle.board_raise.specs.InHand.{registry_of, pic_of, ioapic_of}
use Rattle.board_step.specs.Step.{spent_of, is_publication}
use Rattle.board_step.specs.Sound.{IsSound}
use Rattle.board_step.specs.Laws.{IsTyped}
use Rattle.board_step.specs.History.{opening, Leads}
use Rattle.turn_book.specs.Histories.{Runs}
use Rattle.part_slots.specs.declared.slot.Slot.{Slot}
use Rattle.part_slots.specs.declared.slot.Slot.TheVariants as slots
use Rattle.part_slots.specs.Slots.{part_at, slots_of}
use Rattle.part_slots.specs.Running.{Opens, opening_of, IsStep}

-- the slots of a board at power-on tell the board
pub record IsTold (shape : Shape) : Type 0 where
  pub opens : Opens (opening_of (slots_of (opening shape)))
  pub parts : slots_of (opening_of (slots_of (opening shape))) ≡ slots_of (opening shape)
  pub board : opening_of (slots_of (opening shape)) ≡ opening shape

abbrev pub OpeningsAreTold : Type 0
OpeningsAreTold = (shape : Shape) → InLimits shape → IsTold shape

-- each call of the list is typed
abbrev pub AllTyped : List Entry → Type 0
AllTyped h = All (λ (e : Entry). IsTyped e.call) h

-- the histories of the machine are the legal histories of typed calls
pub record RunsAreLegal : Type 0 where
  pub leads : (o b : Board) (h : List Entry) → Opens o → Runs IsStep o h b → Leads (opening o.shape) h b
  pub typed : (o b : Board) (h : List Entry) → Runs IsStep o h b → AllTyped h
  pub runs : (shape : Shape) (b : Board) (h : List Entry) → AllTyped h → Leads (opening shape) h b → Runs IsStep (opening shape) h b

-- what stands after a history
pub record Stands (first : Shape) (h : List Entry) (b : Board) : Type 0 where
  pub sound : IsSound b
  pub shape : b.shape ≡ first
  pub length : b.length ≡ length h
  pub publications : b.publications ≡ count_by is_publication h

abbrev pub StatesStand : Type 0
StatesStand = (o b : Board) (h : List Entry) → Opens o → Runs IsStep o h b → Stands o.shape h b

-- some reply and some events lead on
pub record GoesOn (b : Board) (caller : Caller) (call : Call) : Type 0 where
  pub reply : Reply
  pub events : List Event
  pub next : Board
  pub step : IsStep b (record { caller = caller; call = call; reply = reply; events = events }) next

-- each typed call that is allowed to its caller and that no limit bars goes on from each state
abbrev pub StatesGoOn : Type 0
StatesGoOn =
    (o b : Board) (h : List Entry) (caller : Caller) (call : Call) → Opens o → Runs IsStep o h b → is_allowed caller call o.shape ≡ true
    → IsTyped call → spent_of b call ≡ None → GoesOn b caller call

-- the value that a slot keeps, where it is one of a part of that name
abbrev pub value_in : Slot → (p : Part) → Option (ValueOf p)
value_in (slots.Registry home) Registry = Some (registry_of home.registry)
value_in (slots.Counters c) Counters = Some c
value_in (slots.Tick t) Tick = Some t
value_in (slots.Pic p) Pic = Some (pic_of p)
value_in (slots.Ioapic p) Ioapic = Some (ioapic_of p)
value_in (slots.Lapic a) (Lapic n) = Some a
value_in _ _ = None

-- the slot at a place keeps the part of the board that has that place
pub record KeepsPart (b : Board) (p : Part) (s : Slot) : Type 0 where
  pub there : is_some (value_in s p) ≡ true
  pub same : value_in s p ≡ part_in (all_parts b) p

abbrev pub SlotsKeepParts : Type 0
SlotsKeepParts = (b : Board) (k : ℕ) (s : Slot) → slice_get (slots_of b) k ≡ Some s → KeepsPart b (part_at k) s
