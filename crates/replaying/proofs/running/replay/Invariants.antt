use Rattle.std.proofs.Common.{◌≡◌, [], List, drop}
use Rattle.irq_base.specs.declared.lists.Entry.{Entry}
use Rattle.board_model.specs.Board.{Board}
use Rattle.board_step.specs.History.{opening}
use Rattle.replaying.specs.declared.stops.Stop.{Stop}
use Rattle.replaying.specs.Played.{LinesPlayed}
use Rattle.replaying.proofs.running.replay.Given as goal

-- what the lines from here on make, all of them make
abbrev pub invariant-lines : goal.invariant-lines
invariant-lines l = record {
  shape : l.player.board.shape ≡ l.script.shape;
  makes : (c : Board) (has : List Stop) (after : List Entry)
      → LinesPlayed (drop l.k l.script.lines) l.player.board l.stops.items l.player.history c has after
      → LinesPlayed l.script.lines (opening l.script.shape) [] [] c has after;
}
