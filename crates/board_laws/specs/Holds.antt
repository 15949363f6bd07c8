-- Resample holds a pin only where the pin's GSI has a resampler (over this board's own definitions).
use Rattle.std.specs.Prelude.{List}
use Rattle.irq_base.specs.declared.event.Pin.TheVariants as pins
use Rattle.irq_base.specs.declared.lists.Entry.{Entry}
use Rattle.irq_base.specs.declared.shape.Shape.{Shape}
use Rattle.board_model.specs.Board.{Board}
use Rattle.board_step.specs.Sound.{ResamplersHold}
use Rattle.board_laws.specs.Points.{OfEachBoard}

-- of each chip Resample holds only pins whose GSI has a resampler
pub record HoldsForResamplers (b : Board) : Type 0 where
  pub pic : ResamplersHold b.registry b.pic.holds pins.Pic
  pub ioapic : ResamplersHold b.registry b.ioapic.holds pins.Ioapic

-- so it is of each board of a history
abbrev pub ResampleHoldsForResamplers : Shape → List Entry → Type 0
ResampleHoldsForResamplers = OfEachBoard (λ b. HoldsForResamplers b)
