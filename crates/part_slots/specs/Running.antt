-- A running board as a machine of a book: where it begins, its steps, and what an entry reaches.
use Rattle.std.specs.Prelude.{◌≡◌, ℕ, Bool, List, ◌∷◌, None}
use Rattle.irq_base.specs.declared.lists.Entry.{Entry}
use Rattle.irq_base.specs.declared.shape.Shape.{Shape}
use Rattle.board_model.specs.Board.{Board}
use Rattle.board_raise.specs.Fit.{InLimits}
use Rattle.board_step.specs.Step.{spent_of, Step}
use Rattle.board_step.specs.Reach.{reach}
use Rattle.board_step.specs.Laws.{IsTyped}
use Rattle.board_step.specs.History.{opening}
use Rattle.part_slots.specs.declared.slot.Slot.{Slot}
use Rattle.part_slots.specs.declared.slot.Slot.TheVariants as slots
use Rattle.part_slots.specs.Callers.{caller_number}
use Rattle.part_slots.specs.Slots.{part_at}

-- the board at power-on, of a shape that is inside the limits
pub record Opens (b : Board) : Type 0 where
  pub shape : InLimits b.shape
  pub fresh : b ≡ opening b.shape

-- the least shape
abbrev pub least_shape : Shape
least_shape = record { cpus = 1; counters = 0; tick = 0; calls = 1; publications = 0 }

-- the shape that the registry's slot carries
abbrev pub shape_in : List Slot → Shape
shape_in (slots.Registry home ∷ rest) = home.shape
shape_in _ = least_shape

-- the board at power-on that has these slots
abbrev pub opening_of : List Slot → Board
opening_of parts = opening (shape_in parts)

-- an entry is a step as of any board, and its call is one that code can make
pub record IsStep (b : Board) (e : Entry) (c : Board) : Type 0 where
  pub step : Step b e c
  pub typed : IsTyped e.call

-- who makes an entry, as a number
abbrev pub caller_of : Entry → ℕ
caller_of e = caller_number e.caller

-- whether an entry reaches the part of that place
abbrev pub reach_at : Board → Entry → ℕ → Bool
reach_at b e p = reach b e.caller e.call (part_at p)

-- no limit bars it
abbrev pub HasRoom : Board → Entry → Type 0
HasRoom b e = spent_of b e.call ≡ None
