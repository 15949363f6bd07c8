use Rattle.std.proofs.Common.{ap, ◌∙◌, is_some}
use Rattle.board_model.specs.Hand.{part_in}
use Rattle.board_raise.specs.declared.parts.Parts as code
use Rattle.board_raise.specs.InHand.{parts_of}
use Rattle.board_calls.proofs.signals.write.Goals as goal

pub returns-in-None-clause-held : goal.returns-in-None-clause-held
returns-in-None-clause-held g c = λ part.
    ap (λ (p : code.Parts). is_some (part_in (parts_of p) part)) (g.met.R.Rig.held_with c.trigger.new.self c.add.new.parts)
    ∙ c.add.ensures.held part
    ∙ ap (λ (p : code.Parts). is_some (part_in (parts_of p) part)) c.parts.ensures.value
    ∙ ap (λ (p : code.Parts). is_some (part_in (parts_of p) part)) c.trigger.ensures.kept
