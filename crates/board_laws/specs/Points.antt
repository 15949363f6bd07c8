-- A point of a legal history, the boards before and after its entry, and what it is to hold along a history (this board's own definitions).
use Rattle.std.specs.Prelude.{◌≡◌, List, ◌∷◌, ◌++◌}
use Rattle.irq_base.specs.declared.lists.Entry.{Entry}
use Rattle.irq_base.specs.declared.shape.Shape.{Shape}
use Rattle.board_model.specs.Board.{Board}
use Rattle.board_step.specs.History.{opening, Legal, next_board, board_after}

-- a point of a history: the entries before, one entry, and the entries after it
pub record Point : Type 0 where
  pub before : List Entry
  pub entry : Entry
  pub after : List Entry

-- the history that it is a point of
abbrev pub history_of : Point → List Entry
history_of p = p.before ++ p.entry ∷ p.after

-- the board on which the entry of a point was made
abbrev pub board_at : Shape → Point → Board
board_at shape p = board_after (opening shape) p.before

-- the board that it left
abbrev pub board_left : Shape → Point → Board
board_left shape p = next_board (board_at shape p) p.entry

-- a point of a history that is legal for the shape
abbrev pub IsLegal : Shape → Point → Type 0
IsLegal shape p = Legal shape (history_of p)

-- ---- what holds along a history

-- these entries come first among those
abbrev pub Begins : List Entry → List Entry → Type 0
Begins first entries = (more : List Entry) × (entries ≡ first ++ more)

-- a law holds at each point of a history
abbrev pub AtEachPoint : (Shape → Point → Type 0) → Shape → List Entry → Type 0
AtEachPoint Law shape history = (p : Point) → history ≡ history_of p → Law shape p

-- a law of a step, of the board before, the entry and the board after it, holds at each entry of a history
abbrev pub AtEachEntry : (Board → Entry → Board → Type 0) → Shape → List Entry → Type 0
AtEachEntry Law shape history = AtEachPoint (λ shape p. Law (board_at shape p) p.entry (board_left shape p)) shape history

-- a law of boards holds at the start of a history and after each entry
abbrev pub OfEachBoard : (Board → Type 0) → Shape → List Entry → Type 0
OfEachBoard Law shape history = (first : List Entry) → Begins first history → Law (board_after (opening shape) first)

-- a law holds of every legal history
abbrev pub OfLegalHistories : (Shape → List Entry → Type 0) → Type 0
OfLegalHistories Law = (shape : Shape) (history : List Entry) → Legal shape history → Law shape history
