use Rattle.std.proofs.Common.{◌≡◌, ◌++◌, List, length, All}
use Rattle.std.specs.Prelude.{IfSome}
use Rattle.std.specs.Vec.Iter.{into_iter_items, into_iter_len}
use Rattle.irq_base.specs.declared.lists.Entry.{Entry}
use Rattle.part_board.specs.declared.pass.Pass.{Pass}
use Rattle.part_board.specs.Seen.{IsPassOf, IsNoteOf}
use Rattle.live_runs.specs.Telling.{told_by, GoesAlong}
use Rattle.live_runs.proofs.telling.tell.Given as goal

-- where the note goes along the passes that are left, it goes along all
abbrev pub invariant-loop-pass : goal.invariant-loop-pass
invariant-loop-pass l =
    IfSome l.note (IsNoteOf l.board) × All (IsPassOf l.board) l.told.items × All (IsPassOf l.board) (into_iter_items l.rest)
    × (length (into_iter_items l.rest) ≡ into_iter_len l.rest)
    × ((more : List Pass) (last : List Entry) → GoesAlong l.board.shape (told_by l.note) (into_iter_items l.rest) more last
    → GoesAlong l.board.shape (told_by l.fn.note) l.fn.passes.items (l.told.items ++ more) last)

abbrev pub decreases-loop-pass : goal.decreases-loop-pass
decreases-loop-pass l = into_iter_len l.rest
