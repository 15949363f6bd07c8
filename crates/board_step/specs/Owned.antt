-- The board that the code's fields are, and what they keep (this board's own).
use Rattle.std.specs.Prelude.{◌≡◌}
use Rattle.board_model.specs.Board.{Board}
use Rattle.board_model.specs.Published.{published}
use Rattle.board_raise.specs.BoardRig.{words_in}
use Rattle.board_raise.specs.Fit.{PinsFit}
use Rattle.board_raise.specs.InHand.{parts_of, chips_of}
use Rattle.board_step.specs.declared.board.Board.TheInside.{Inside}
use Rattle.board_step.specs.Sound.{IsSound}
use Rattle.board_step.specs.Whole.{IsWhole, board_of}

-- the board of the shape, the parts and the two counts
abbrev pub board_in : Inside → Board
board_in a = board_of a.shape (parts_of a.rig.parts) a.length a.publications

-- no part is missing, the board is sound, the pins are those that are held, and the words are those of its registry
pub record IsKept (a : Inside) : Type 0 where
  pub whole : IsWhole a.shape (parts_of a.rig.parts)
  pub sound : IsSound (board_in a)
  pub pins : PinsFit (chips_of a.rig.parts)
  pub words : words_in a.rig.words ≡ published (board_in a).registry a.shape.tick
