-- The desk takes in the passes, and the book is closed (this board's own).
use Rattle.std.specs.Prelude.{◌≡◌, ℕ, false, List, [], ◌∷◌, length, All, count_by}
use Rattle.irq_base.specs.declared.lists.Entry.{Entry}
use Rattle.irq_base.specs.declared.shape.Shape.{Shape}
use Rattle.board_step.specs.History.{opening, Leads}
use Rattle.board_step.specs.Step.{is_publication}
use Rattle.turn_book.specs.declared.view.Ended.{Ended}
use Rattle.turn_book.specs.Histories.{IsPrefix, entries_of, is_in}
use Rattle.part_slots.specs.Callers.{caller_number}
use Rattle.part_slots.specs.Commits.{Seen}
use Rattle.part_slots.specs.Running.{caller_of}
use Rattle.part_board.specs.declared.closed.Closed.{Closed}
use Rattle.part_board.specs.declared.pass.Pass.{Pass}
use Rattle.part_board.specs.Seen.{pass_seen}

-- the caller of a pass, with the entries that it has seen of its own
abbrev pub end_of : Pass → Ended Entry
end_of pass = record { caller = caller_number pass.caller; entries = entries_of caller_of (caller_number pass.caller) (pass_seen pass) }

-- the list of the ended, after these passes
abbrev pub ends_after : List Pass → List (Ended Entry) → List (Ended Entry)
ends_after [] ended = ended
ends_after (pass ∷ passes) ended = ends_after passes (end_of pass ∷ ended)

-- a view has taken in these passes: it begins with what each has seen, and each has ended
pub record JoinsAll (v : Seen) (passes : List Pass) (w : Seen) : Type 0 where
  pub seen : IsPrefix v.seen w.seen
  pub lists : All (λ (pass : Pass). IsPrefix (pass_seen pass) w.seen) passes
  pub ended : w.ended ≡ ends_after passes v.ended
  pub made : w.made ≡ v.made

-- one legal history leads to the board that is left: it begins with what the view has seen, has of each that ended just its
-- entries, and of no caller for whom no pen was made any
pub record IsEnded (shape : Shape) (v : Seen) (closed : Closed) : Type 0 where
  pub history : List Entry
  pub legal : Leads (opening shape) history closed.board
  pub counted : closed.length ≡ length history
  pub publications : closed.board.publications ≡ count_by is_publication history
  pub seen : IsPrefix v.seen history
  pub ended : All (λ (x : Ended Entry). entries_of caller_of x.caller history ≡ x.entries) v.ended
  pub others : (c : ℕ) → is_in c v.made ≡ false → entries_of caller_of c history ≡ []
