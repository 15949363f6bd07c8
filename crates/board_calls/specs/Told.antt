-- What a call that tells events is to its plan; what finds no room is left out (this board's own limit).
use Rattle.std.specs.Prelude.{◌≡◌, List, Result, Ok, Err}
use Rattle.irq_base.specs.declared.event.Event.{Event}
use Rattle.irq_base.specs.declared.reply.Reply.{Reply}
use Rattle.irq_base.specs.Room.{with_told}
use Rattle.board_model.specs.Hand.{Parts}
use Rattle.board_model.specs.Run.{Wishes, OnParts}
use Rattle.board_raise.specs.declared.lacks.Lacks.{Lacks}
use Rattle.board_raise.specs.Shown.{EndsWith, StopsAt}

-- what a plan told was told after the events that stood there
pub record IsTold (told before now : List Event) (replies : List Reply) (after : Parts) (later : Wishes)
    (o : OnParts (Unit {0})) : Type 0 where
  pub ends : EndsWith tt told replies after later o
  pub room : now ≡ with_told before told

-- a plan gave these replies of an answer, told events after those before, and left these parts and wishes; or it lacked the part
-- that is named
abbrev pub TellsOn :
    {S : Type 0} → (S → List Reply) → Result S Lacks → List Event → List Event → Parts → Wishes → OnParts (Unit {0}) → Type 0
TellsOn replies (Ok answer) before now after later o = (told : List Event) × IsTold told before now (replies answer) after later o
TellsOn replies (Err l) before now after later o = StopsAt l.part o
