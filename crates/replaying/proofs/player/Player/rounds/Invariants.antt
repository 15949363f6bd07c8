use Rattle.std.proofs.Common.{◌≡◌, ◌-◌, List}
use Rattle.std.specs.declared.option.Option.{Option}
use Rattle.irq_base.specs.declared.lists.Entry.{Entry}
use Rattle.irq_base.specs.declared.reply.Spent.{Spent}
use Rattle.script_text.specs.Asks.{Asks, rounds}
use Rattle.board_model.specs.Board.{Board}
use Rattle.replaying.specs.Played.{Played}
use Rattle.replaying.proofs.player.Player.rounds.Given as goal

-- what is asked from here on, all of it makes
abbrev pub invariant-turns : goal.invariant-turns
invariant-turns l = record {
  shape : l.self.board.shape ≡ l.fn.self.board.shape;
  makes : (rest : Asks) (stop : Option Spent) (c : Board) (after : List Entry)
      → Played l.caller (rounds (l.count - l._turn) rest) rest l.self.board l.self.history stop c after
      → Played l.caller (rounds l.count rest) rest l.fn.self.board l.fn.self.history stop c after;
}
