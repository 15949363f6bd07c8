-- What a processor of a running board would be given now, by the parts that tell it (this board's own rule).
use Rattle.std.specs.Prelude.{◌≡◌, ℕ, ◌&&◌, Bool, true, false, nat_eq, if◌then◌else◌, List, [], ◌∷◌, ◌++◌, option_map, unwrap_or, Result, Ok, Err}
use Rattle.std.specs.declared.option.Option.{Option}
use Rattle.irq_base.specs.declared.call.Caller.{Caller}
use Rattle.irq_base.specs.declared.call.Caller.TheVariants.{Device, Cpu}
use Rattle.irq_base.specs.declared.lists.Entry.{Entry}
use Rattle.irq_base.specs.declared.shape.Part.TheVariants.{Pic, Lapic}
use Rattle.irq_base.specs.declared.shape.Shape.{Shape}
use Rattle.pic_8259a.specs.Pair.{has_output}
use Rattle.lapic.specs.Registers.{LocalApic}
use Rattle.lapic.specs.Priority.{giveable_of}
use Rattle.board_model.specs.Board.{Board}
use Rattle.board_model.specs.Run.{Wishes}
use Rattle.board_calls.specs.Processors.{hears_pair}
use Rattle.board_step.specs.declared.due.Due.{Due}
use Rattle.board_step.specs.declared.due.Due.TheVariants as dues
use Rattle.board_step.specs.Due.{given_due, AnswersDue}
use Rattle.board_step.specs.History.{opening, Leads}
use Rattle.turn_book.specs.declared.view.Held.{Held}
use Rattle.turn_book.specs.Hands.{held_at}
use Rattle.turn_book.specs.Histories.{is_in}
use Rattle.turn_book.specs.Many.{up_to}
use Rattle.part_slots.specs.declared.slot.Slot.{Slot}
use Rattle.part_slots.specs.declared.slot.Slot.TheVariants as slots
use Rattle.part_slots.specs.Slots.{place}
use Rattle.part_board.specs.declared.watching.Busy.{Busy}

-- whether the caller is a processor
abbrev pub is_processor : Caller → Bool
is_processor (Cpu n) = true
is_processor (Device d) = false

-- ---- the answer

-- on this board an Ack of the processor answers what is due; to a device nothing is ever due
abbrev pub IsDueOn : Board → Caller → Due → Type 0
IsDueOn b (Cpu n) due = (ws : Wishes) → AnswersDue b n due ws
IsDueOn b (Device d) due = ⊥

-- it is due to the caller on the board that the history leaves
pub record IsDueAfter (shape : Shape) (caller : Caller) (due : Due) (history : List Entry) : Type 0 where
  pub last : Board
  pub after : Leads (opening shape) history last
  pub answers : IsDueOn last caller due

-- ---- turns

-- the parts that tell what is due to a processor: for processor 0 the 8259A pair, and its local APIC
abbrev pub due_turns : Caller → List ℕ
due_turns (Cpu n) = (if nat_eq n 0 then place Pic ∷ [] else []) ++ place (Lapic n) ∷ []
due_turns (Device d) = []

-- the turns that are won: all of these, or those before one that is found taken
abbrev pub due_turns_won : Caller → Result Due Busy → List ℕ
due_turns_won caller (Ok due) = due_turns caller
due_turns_won caller (Err busy) = up_to (place busy.part) (due_turns caller)

-- the turns that are found taken
abbrev pub due_turns_found : Result Due Busy → List ℕ
due_turns_found (Ok due) = []
due_turns_found (Err busy) = place busy.part ∷ []

-- a list of turns grew by some of these alone
pub record GrewBy (among before now : List ℕ) : Type 0 where
  pub more : List ℕ
  pub grown : now ≡ before ++ more
  pub each : (q : ℕ) → is_in q more ≡ true → is_in q among ≡ true

-- ---- parts in hand

-- whether the output of the 8259A pair is active, where the slot has it
abbrev pub output_in : Slot → Bool
output_in (slots.Pic part) = has_output part.pair
output_in _ = false

-- what processor n would be given by its local APIC, where the pair's output is so
abbrev pub due_by_line : ℕ → Bool → LocalApic → Due
due_by_line n output apic =
    if apic.nmi then dues.Nmi
    else if hears_pair n apic && output then dues.Extint
    else given_due (giveable_of apic)

-- the same where the slot has the local APIC; else nothing
abbrev pub due_in_slot : ℕ → Bool → Slot → Due
due_in_slot n output (slots.Lapic apic) = due_by_line n output apic
due_in_slot n output _ = dues.None

-- whether the output of the pair is active that is held
abbrev pub output_held : List (Held Slot) → Bool
output_held held = unwrap_or (option_map output_in (held_at (place Pic) held)) false

-- what processor n would be given by what is held; none where its local APIC is not
abbrev pub due_of_held : ℕ → List (Held Slot) → Option Due
due_of_held n held = option_map (due_in_slot n (nat_eq n 0 && output_held held)) (held_at (place (Lapic n)) held)
