-- A call that tells no event.
use Rattle.std.proofs.Common.{List, [], ◌∷◌, Ok, Err, sym}
use Rattle.std.specs.Prelude.{Result}
use Rattle.irq_base.specs.declared.event.Event.{Event}
use Rattle.irq_base.specs.declared.reply.Reply.{Reply}
use Rattle.irq_base.proofs.Room.{told-none}
use Rattle.board_model.specs.Hand.{Parts}
use Rattle.board_model.specs.Run.{Wishes, OnParts}
use Rattle.board_raise.specs.declared.lacks.Lacks.{Lacks}
use Rattle.board_calls.specs.Done.{IsReplied}
use Rattle.board_calls.specs.Told.{TellsOn}

-- a call that tells no event leaves those that stand there
pub quiet_tells : (result : Result Reply Lacks) (before : List Event) (after : Parts) (later : Wishes) (o : OnParts (Unit {0})) → IsReplied result after later o → TellsOn (λ answer. answer ∷ []) result before before after later o
quiet_tells (Ok answer) before after later o h = ([], record { ends = h; room = sym (told-none before) })
quiet_tells (Err l) before after later o h = h
