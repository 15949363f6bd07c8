-- What a call in code is to its plan, on the parts in hand (this board's own).
use Rattle.std.specs.Prelude.{◌≡◌, ◌+◌, ◌^◌, ◌≤◌, [], ◌∷◌, is_some, IfSome, IfErr, false, None, Result, Ok, Err}
use Rattle.irq_base.specs.declared.reply.Reply.{Reply}
use Rattle.irq_base.specs.declared.shape.Part.{Part}
use Rattle.irq_base.specs.declared.shape.Shape.{Shape}
use Rattle.board_model.specs.Hand.{Parts, part_in}
use Rattle.board_model.specs.Plan.{Plan}
use Rattle.board_model.specs.Run.{Wishes, OnParts, run_on}
use Rattle.board_raise.specs.declared.lacks.Lacks.{Lacks}
use Rattle.board_raise.specs.declared.parts.Parts as code
use Rattle.board_raise.specs.Fit.{Fits}
use Rattle.board_raise.specs.InHand.{parts_of, chips_of}
use Rattle.board_raise.specs.Shown.{EndsWith, StopsAt}

-- a plan answered this reply alone, told no event, and left these parts and wishes; or it lacked the part that is named
abbrev pub IsReplied : Result Reply Lacks → Parts → Wishes → OnParts (Unit {0}) → Type 0
IsReplied (Ok reply) after later o = EndsWith tt [] (reply ∷ []) after later o
IsReplied (Err l) after later o = StopsAt l.part o

-- from these parts and wishes a call did what its plan does on them
abbrev pub Replies : Plan (Unit {0}) → code.Parts → Wishes → Result Reply Lacks → code.Parts → Wishes → Type 0
Replies plan old wishes result new later = IsReplied result (parts_of new) later (run_on plan (parts_of old) wishes)

-- a call that lacks a part names one that is not in hand
abbrev pub IsMissing : {A : Type 0} → Result A Lacks → code.Parts → Type 0
IsMissing result parts = IfErr result (λ l. is_some (part_in (parts_of parts) l.part) ≡ false)

-- the same parts are in hand
abbrev pub SameInHand : code.Parts → code.Parts → Type 0
SameInHand old new = (part : Part) → is_some (part_in (parts_of new) part) ≡ is_some (part_in (parts_of old) part)

-- the parts in hand fit a shape
abbrev pub FitsShape : Shape → code.Parts → Type 0
FitsShape shape parts = Fits shape (parts_of parts) (chips_of parts)

-- the parts in hand fit a shape, but that one tick more than there may be is pending
pub record FitsButTick (shape : Shape) (parts : code.Parts) : Type 0 where
  pub others : FitsShape shape (record parts { tick = None })
  pub pending : IfSome parts.tick (λ tick. tick.pending ≤ 2 ^ 40 + 1)
