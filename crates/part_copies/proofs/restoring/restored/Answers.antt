use Rattle.std.proofs.Common.{◌∙◌, is_some, refl, sym, ap, subst}
use Rattle.std.specs.Prelude.{IfSome, option_map, unwrap_or}
use Rattle.irq_base.specs.declared.shape.Part.TheVariants.{Registry}
use Rattle.board_model.specs.Published.{published}
use Rattle.board_raise.specs.declared.parts.Parts.{Parts}
use Rattle.board_raise.specs.BoardRig.{NamesWhatIsThere, words_in}
use Rattle.board_raise.specs.InHand.{registry_of}
use Rattle.board_step.specs.History.{opening_registry}
use Rattle.part_copies.proofs.LeftWords.{left_names, left_words}
use Rattle.part_copies.proofs.restoring.restored.Goals as goal

pub publish-requires-clause-names : goal.publish-requires-clause-names
publish-requires-clause-names c =
    subst (λ (p : Parts). IfSome p.registry NamesWhatIsThere) (sym c.new-rig.ensures.parts)
    (left_names c.args.parts.registry c.args.shape.now.tick c.requires.sound.registry)

pub of_parts-requires-clause-words : goal.of_parts-requires-clause-words
of_parts-requires-clause-words c =
    let tick = c.args.shape.now.tick in
    let there = ap (λ (p : Parts). is_some (option_map registry_of p.registry)) c.new-rig.ensures.parts ∙ c.requires.whole.each Registry refl in
    let same = c.into_parts-parts.ensures.parts ∙ c.publish.ensures.parts in
    ap words_in c.into_parts-parts.ensures.words
    ∙ left_words c.new-rig.result.parts.registry (words_in c.publish.new.self.words) tick there c.publish.ensures.words
    ∙ sym (ap (λ (p : Parts). published (unwrap_or (option_map registry_of p.registry) opening_registry) tick) same)
