-- The callers whose passes a desk has made.
use Rattle.std.specs.Prelude.{◌≡◌, ℕ, Bool, true, List}
use Rattle.irq_base.specs.Callers.{is_there}
use Rattle.irq_base.specs.declared.call.Caller.{Caller}
use Rattle.irq_base.specs.declared.shape.Shape.{Shape}
use Rattle.turn_book.specs.Histories.{is_in}
use Rattle.part_slots.specs.Callers.{caller_number, caller_at}
use Rattle.part_board.specs.declared.callers.Callers.{Callers}
use Rattle.part_board.specs.Callers.{has_caller}

-- the set has just the callers for whom the book has made pens
abbrev pub MadeAre : Callers → List ℕ → Type 0
MadeAre callers made = (c : Caller) → is_in (caller_number c) made ≡ has_caller callers c

-- each of them is a device below MAX_DEVICES or a processor of the board
abbrev pub AreThere : Shape → List ℕ → Type 0
AreThere shape made = (k : ℕ) → is_in k made ≡ true → is_there (caller_at k) shape ≡ true
