use Rattle.std.proofs.Common.{◌∙◌, refl}
use Rattle.irqboard.proofs.Carried.{carried}
use Rattle.irqboard.proofs.Unread.{knows, carried_made, anyway}
use Rattle.irqboard.proofs.program.asked.Goals as goal

pub returns-in_default-clause-made : goal.returns-in_default-clause-made
returns-in_default-clause-made g c = anyway _ c.args.texts (λ m. refl)

pub returns-in_default-clause-unread : goal.returns-in_default-clause-unread
returns-in_default-clause-unread g c = anyway _ c.args.texts (λ m. refl)

pub returns-clause-usage : goal.returns-clause-usage
returns-clause-usage g c =
    knows c.args.texts c.in-Ok.texts c.as_slice.result.now c.irqboard.result c.in-Ok.is (c.as_slice.ensures.value ∙ c.in-Ok-words_of.ensures) c.irqboard.ensures.usage

pub returns-clause-made : goal.returns-clause-made
returns-clause-made g c =
    carried_made _ c.args.texts c.in-Ok.texts c.as_slice.result.now c.in-Ok.is (c.as_slice.ensures.value ∙ c.in-Ok-words_of.ensures) c.irqboard.ensures.made

pub returns-clause-unread : goal.returns-clause-unread
returns-clause-unread g c =
    carried_made _ c.args.texts c.in-Ok.texts c.as_slice.result.now c.in-Ok.is (c.as_slice.ensures.value ∙ c.in-Ok-words_of.ensures) c.irqboard.ensures.unread

pub returns-clause-complete : goal.returns-clause-complete
returns-clause-complete g c =
    carried _ c.args.texts c.in-Ok.texts c.as_slice.result.now c.in-Ok.is (c.as_slice.ensures.value ∙ c.in-Ok-words_of.ensures) c.irqboard.ensures.complete
