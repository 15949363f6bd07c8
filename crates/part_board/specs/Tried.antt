-- What one attempt of a call on a running board comes to (this board's own rule).
use Rattle.std.specs.Prelude.{◌≡◌, List, [], ◌∷◌, ◌++◌, length}
use Rattle.irq_base.specs.declared.call.Call.{Call}
use Rattle.irq_base.specs.declared.call.Caller.{Caller}
use Rattle.irq_base.specs.declared.event.Event.{Event}
use Rattle.irq_base.specs.declared.lists.Entry.{Entry}
use Rattle.irq_base.specs.declared.reply.Done.{Done}
use Rattle.board_step.specs.Bodies.{entry_of}
use Rattle.turn_book.specs.Histories.{IsPrefix}
use Rattle.part_board.specs.Seen.{entries_by}

-- the call has its entry, with its reply and its events: it stands last, behind a list that begins with what was seen before and
-- has of the caller no other entries, and the place that was answered is the length of that list
pub record IsEntered (caller : Caller) (call : Call) (done : Done) (events : List Event) (before now : List Entry) : Type 0 where
  pub others : List Entry
  pub seen : IsPrefix before others
  pub own : entries_by caller others ≡ entries_by caller before
  pub entered : now ≡ others ++ entry_of caller call done.reply events ∷ []
  pub at : done.at ≡ length others
