-- What a pass, a note and a desk of a running board know (this board's own rule). What each has seen is the list of its seat's
-- view, which the book maintains.
use Rattle.std.specs.Prelude.{◌≡◌, Bool, true, false, List, [], filter}
use Rattle.irq_base.specs.declared.call.Caller.{Caller}
use Rattle.irq_base.specs.declared.lists.Entry.{Entry}
use Rattle.irq_base.specs.declared.shape.Shape.{Shape}
use Rattle.board_step.specs.History.{Legal}
use Rattle.turn_book.specs.Histories.{IsPrefix, is_in}
use Rattle.turn_book.specs.Views.{view_of, SameTurns}
use Rattle.part_slots.specs.Callers.{is_caller, caller_number}
use Rattle.part_slots.specs.Commits.{Seen}
use Rattle.part_board.specs.declared.desk.Desk.{Desk}
use Rattle.part_board.specs.declared.live.LiveBoard.{LiveBoard}
use Rattle.part_board.specs.declared.note.Note.{Note}
use Rattle.part_board.specs.declared.pass.Pass.{Pass}

-- ---- views

-- what a pass, a note and a desk know
abbrev pub pass_view : Pass → Seen
pass_view pass = view_of pass.pen.seat

abbrev pub note_view : Note → Seen
note_view note = view_of note.pen.seat

abbrev pub desk_view : Desk → Seen
desk_view desk = view_of desk.pen.seat

-- what each has seen
abbrev pub pass_seen : Pass → List Entry
pass_seen pass = (pass_view pass).seen

abbrev pub note_seen : Note → List Entry
note_seen note = (note_view note).seen

abbrev pub desk_seen : Desk → List Entry
desk_seen desk = (desk_view desk).seen

-- ---- of one board

-- the pass is of this board: of its book, and of its shape, with whose power-on its history begins
pub record IsPassOf (board : LiveBoard) (pass : Pass) : Type 0 where
  pub book : pass.pen.seat.table_id ≡ board.book.table.shared.table_id
  pub shape : pass.shape ≡ board.shape

-- so is a note
pub record IsNoteOf (board : LiveBoard) (note : Note) : Type 0 where
  pub book : note.pen.seat.table_id ≡ board.book.table.shared.table_id
  pub shape : note.shape ≡ board.shape

-- and so is a desk
pub record IsDeskOf (board : LiveBoard) (desk : Desk) : Type 0 where
  pub book : desk.pen.seat.table_id ≡ board.book.table.shared.table_id
  pub shape : desk.shape ≡ board.shape

-- ---- entries and passes of one caller

-- the entries of one caller, in their order
abbrev pub entries_by : Caller → List Entry → List Entry
entries_by c history = filter (λ (e : Entry). is_caller e.caller c) history

-- whether the desk has made the pass of that caller
abbrev pub has_made : Desk → Caller → Bool
has_made desk c = is_in (caller_number c) (desk_view desk).made

-- ---- what calls do to them

-- the list after begins with that before, it is legal for the shape, and it has of the caller the same entries
pub record Learnt (shape : Shape) (caller : Caller) (before now : List Entry) : Type 0 where
  pub seen : IsPrefix before now
  pub legal : Legal shape now
  pub own : entries_by caller now ≡ entries_by caller before

-- the pass of the caller that was asked for: it has no entry of its own, and begins with what the desk had seen
pub record IsNewPass (live : LiveBoard) (desk : Desk) (asked : Caller) (pass : Pass) : Type 0 where
  pub board : IsPassOf live pass
  pub caller : pass.caller ≡ asked
  pub seen : IsPrefix (desk_seen desk) (pass_seen pass)
  pub legal : Legal live.shape (pass_seen pass)
  pub fresh : entries_by asked (pass_seen pass) ≡ []
