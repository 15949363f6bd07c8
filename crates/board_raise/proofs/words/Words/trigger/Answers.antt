use Rattle.std.proofs.Common.{◌<◌, ◌∙◌, sym, subst}
use Rattle.std.specs.Prelude.{IfSome}
use Rattle.std.specs.declared.option.Option.{Option}
use Rattle.board_model.specs.declared.trigger.TriggerWord.{TriggerWord}
use Rattle.board_model.specs.Published.{trigger_word_at}
use Rattle.board_raise.specs.InHand.{registry_of}
use Rattle.board_raise.specs.BoardRig.{words_in}
use Rattle.board_raise.proofs.Publishing.{trigger_told, trigger_in-range}
use Rattle.board_raise.proofs.words.Words.trigger.Goals as goal

pub returns : goal.returns
returns c =
    let told = c.trigger_in.ensures ∙ trigger_told (registry_of c.args.self.now.registry) c.args.self.now.tick c.args.self.now.told c.args.trigger in
    record { told = told; range = subst (λ (o : Option TriggerWord). IfSome o (λ word. word.gsi < 4096)) (sym told) (trigger_in-range (trigger_word_at (words_in c.args.self.now) c.args.trigger)) }
