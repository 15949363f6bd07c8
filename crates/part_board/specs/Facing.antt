-- What a face of a running board tells (this board's own rule).
use Rattle.std.specs.Prelude.{◌≡◌, ℕ, ◌+◌, List, [], ◌∷◌, filter, Ok, IfOk, IfErr, OnErr}
use Rattle.std.specs.declared.result.Result.{Result}
use Rattle.atomic_table.specs.Seated.{TableId}
use Rattle.irq_base.specs.Faces.{PlacedEntry}
use Rattle.irq_base.specs.declared.call.Call.{Call}
use Rattle.irq_base.specs.declared.call.Caller.{Caller}
use Rattle.irq_base.specs.declared.event.Event.{Event}
use Rattle.irq_base.specs.declared.lists.Entry.{Entry}
use Rattle.irq_base.specs.declared.reply.Done.{Done}
use Rattle.irq_base.specs.declared.reply.Spent.{Spent}
use Rattle.board_model.specs.Board.{Board}
use Rattle.board_step.specs.History.{opening, Legal, board_after}
use Rattle.turn_book.specs.Histories.{IsPrefix}
use Rattle.part_slots.specs.Callers.{is_caller}
use Rattle.part_attempt.specs.Attempts.{IsBarred}
use Rattle.part_reach.specs.Turns.{AddsReached, seen_before_own}
use Rattle.part_board.specs.declared.live.LiveBoard.{LiveBoard}
use Rattle.part_board.specs.declared.pass.Pass.{Pass}
use Rattle.part_board.specs.Seen.{pass_view, pass_seen, IsPassOf, Learnt}
use Rattle.part_board.specs.Tried.{IsEntered}

-- ---- the name of a running board

-- which table of turns it is, as a list of numbers: two tables are one where their numbers are the same
abbrev pub numbers_of : TableId → List ℕ
numbers_of table =
    table.words ∷ table.slots ∷ table.views_name ∷ table.atom ∷ table.block ∷ table.offset ∷ table.slot_names

-- the table of a running board, and that of a pass
abbrev pub home_of : LiveBoard → List ℕ
home_of board = numbers_of board.book.table.shared.table_id

abbrev pub home_of_pass : Pass → List ℕ
home_of_pass pass = numbers_of pass.pen.seat.table_id

-- ---- entries with their places

-- entries with their places, the first of which is this
abbrev pub placed_from : ℕ → List Entry → List PlacedEntry
placed_from k [] = []
placed_from k (e ∷ es) = record { entry = e; at = k } ∷ placed_from (k + 1) es

-- the entries of one caller in a history, each with its place
abbrev pub own_in : Caller → List Entry → List PlacedEntry
own_in who history = filter (λ (p : PlacedEntry). is_caller p.entry.caller who) (placed_from 0 history)

-- ---- the board that a pass has seen

-- the board that the list of a pass leaves
abbrev pub board_seen : Pass → Board
board_seen pass = board_after (opening pass.shape) (pass_seen pass)

-- ---- a call by a pass

-- a call by a pass of the board handed out these events and gave this answer: what the board promises of it
pub record IsCalledOn (board : LiveBoard) (before : Pass) (call : Call) (events : List Event) (answer : Result Done Spent) (now : Pass)
    : Type 0 where
  pub pass : IsPassOf board now
  pub caller : now.caller ≡ before.caller
  pub seen : IsPrefix (pass_seen before) (pass_seen now)
  pub legal : Legal board.shape (pass_seen now)
  pub entered : IfOk answer (λ done. IsEntered before.caller call done events (pass_seen before) (pass_seen now))
  pub barred : IfErr answer (λ spent. IsBarred board.shape call spent (pass_seen now))
  pub learnt : OnErr answer (Learnt board.shape before.caller (pass_seen before) (pass_seen now))
  pub quiet : OnErr answer (events ≡ [])
  -- the turns that it won, and those that it found taken, are of parts that the call reached
  pub took : AddsReached board.shape before.caller call (pass_seen before) (seen_before_own (Ok answer) (pass_seen now))
      (pass_view before).took (pass_view now).took
  pub found : AddsReached board.shape before.caller call (pass_seen before) (seen_before_own (Ok answer) (pass_seen now))
      (pass_view before).found (pass_view now).found
