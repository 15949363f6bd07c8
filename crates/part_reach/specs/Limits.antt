-- The limits of a board of which the registry may be in hand (this board's own rule).
use Rattle.std.specs.Prelude.{◌≡◌, true, is_some, Some}
use Rattle.irq_base.specs.declared.shape.Shape.{Shape}
use Rattle.board_model.specs.Board.{Board}
use Rattle.board_model.specs.Hand.{Parts}
use Rattle.turn_book.specs.declared.view.Front.{Front}

-- the board has that shape, so many entries and so many publications, and the registry that is in hand, if one is
pub record IsCounted (b : Board) (shape : Shape) (front : Front) (q : Parts) : Type 0 where
  pub one_shape : b.shape ≡ shape
  pub calls : b.length ≡ front.length
  pub publications : b.publications ≡ front.generation
  pub registry : is_some q.registry ≡ true → Some b.registry ≡ q.registry
