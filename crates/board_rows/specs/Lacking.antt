-- Parts of a board without one of them.
use Rattle.irq_base.specs.declared.shape.Shape.{Shape}
use Rattle.board_raise.specs.declared.parts.Parts.{Parts}
use Rattle.board_raise.specs.Fit.{Fits}
use Rattle.board_raise.specs.InHand.{parts_of, chips_of}

-- what the first fit, the others fit
abbrev pub StillFits : Parts → Parts → Type 0
StillFits some others = (numbers : Shape) → Fits numbers (parts_of some) (chips_of some)
    → Fits numbers (parts_of others) (chips_of others)
