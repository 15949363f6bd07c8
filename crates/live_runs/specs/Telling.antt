-- Passes learn of each other (this board's own).
use Rattle.std.specs.Prelude.{◌≡◌, false, List, [], ◌∷◌, All, Some, None}
use Rattle.std.specs.declared.option.Option.{Option}
use Rattle.irq_base.specs.declared.call.Caller.{Caller}
use Rattle.irq_base.specs.declared.lists.Entry.{Entry}
use Rattle.irq_base.specs.declared.shape.Shape.{Shape}
use Rattle.board_step.specs.History.{Legal}
use Rattle.turn_book.specs.Histories.{IsPrefix}
use Rattle.part_board.specs.Closing.{IsPassedOn}
use Rattle.part_board.specs.declared.desk.Desk.{Desk}
use Rattle.part_board.specs.declared.note.Note.{Note}
use Rattle.part_board.specs.declared.pass.Pass.{Pass}
use Rattle.part_board.specs.Seen.{pass_seen, note_seen, has_made, entries_by, Learnt}
use Rattle.live_runs.specs.Made.{callers_of, seen_by_first, HasLearnt}

-- what a note tells, if there is one
abbrev pub told_by : Option Note → List Entry
told_by None = []
told_by (Some note) = note_seen note

-- a note goes from pass to pass: each learns it, and gives a note of its own to the next. The lists are what the first note tells, and
-- what the last one tells
abbrev pub GoesAlong : Shape → List Entry → List Pass → List Pass → List Entry → Type 0
GoesAlong shape first [] [] last = last ≡ first
GoesAlong shape first (p ∷ ps) (q ∷ qs) last =
    (q.caller ≡ p.caller) × Learnt shape p.caller (pass_seen p) (pass_seen q) × IsPrefix first (pass_seen q)
    × GoesAlong shape (pass_seen q) ps qs last
GoesAlong shape first _ _ last = ⊥

-- the passes have learnt of each other: the list of the first is legal, it has of each pass's caller just the entries that the pass had
-- seen, and of a caller whose pass the desk has not made none; and all passes have learnt it
pub record AllKnow (shape : Shape) (desk : Desk) (before now : List Pass) : Type 0 where
  pub callers : callers_of now ≡ callers_of before
  pub legal : Legal shape (seen_by_first now)
  pub each : All (IsPassedOn (seen_by_first now)) before
  pub learnt : All (HasLearnt (seen_by_first now)) now
  pub others : (c : Caller) → has_made desk c ≡ false → entries_by c (seen_by_first now) ≡ []
