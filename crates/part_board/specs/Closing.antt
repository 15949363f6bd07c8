-- How a running board ends (this board's own rule).
use Rattle.std.specs.Prelude.{◌≡◌, Bool, false, not, ◌&&◌, List, [], length, All, count_by}
use Rattle.std.specs.List.{list_any}
use Rattle.irq_base.specs.declared.call.Caller.{Caller}
use Rattle.irq_base.specs.declared.lists.Entry.{Entry}
use Rattle.irq_base.specs.declared.shape.Shape.{Shape}
use Rattle.board_step.specs.History.{opening, Leads}
use Rattle.board_step.specs.Step.{is_publication}
use Rattle.turn_book.specs.Histories.{IsPrefix}
use Rattle.part_slots.specs.Callers.{is_caller}
use Rattle.part_board.specs.declared.closed.Closed.{Closed}
use Rattle.part_board.specs.declared.desk.Desk.{Desk}
use Rattle.part_board.specs.declared.live.LiveBoard.{LiveBoard}
use Rattle.part_board.specs.declared.pass.Pass.{Pass}
use Rattle.part_board.specs.Seen.{pass_seen, desk_seen, entries_by, has_made, IsPassOf}

-- whether one of the passes is that caller's
abbrev pub has_pass : List Pass → Caller → Bool
has_pass passes c = list_any (λ (pass : Pass). is_caller pass.caller c) passes

-- whether the pass of that caller was made and is none of the list
abbrev pub is_missing : Desk → List Pass → Caller → Bool
is_missing desk passes c = not (has_pass passes c) && has_made desk c

-- the history begins with what the pass has seen, and has of its caller just the entries that it has seen; a pass that has seen
-- as many entries has seen the history itself
pub record IsPassedOn (history : List Entry) (pass : Pass) : Type 0 where
  pub seen : IsPrefix (pass_seen pass) history
  pub own : entries_by pass.caller history ≡ entries_by pass.caller (pass_seen pass)
  pub whole : length (pass_seen pass) ≡ length history → pass_seen pass ≡ history

-- there is one legal history, from the board at power-on to the board that is left, of this length and with as many publications
-- as the board counts; it begins with what the desk has seen, each pass is passed on, and no other caller has entries in it
pub record IsClosed (shape : Shape) (desk : Desk) (passes : List Pass) (closed : Closed) : Type 0 where
  pub history : List Entry
  pub legal : Leads (opening shape) history closed.board
  pub counted : closed.length ≡ length history
  pub publications : closed.board.publications ≡ count_by is_publication history
  pub seen : IsPrefix (desk_seen desk) history
  pub each : All (IsPassedOn history) passes
  pub others : (c : Caller) → has_pass passes c ≡ false → entries_by c history ≡ []
