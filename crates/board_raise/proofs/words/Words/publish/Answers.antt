use Rattle.std.proofs.Common.{sym, subst}
use Rattle.board_model.specs.Laws.{PublishesRouting}
use Rattle.board_raise.specs.declared.parts.RegistryPart.{RegistryPart}
use Rattle.board_raise.specs.InHand.{registry_of}
use Rattle.board_raise.proofs.Publishing.{publishes}
use Rattle.board_raise.proofs.words.Words.publish.Goals as goal

pub invariant_of-self : goal.invariant_of-self
invariant_of-self c =
    let low = c.requires.tick in
    let tick = c.args.tick in
    record {
      in_range = low;
      told = subst (λ (r : RegistryPart). ∥ PublishesRouting (registry_of r) tick ∥₁) (sym c.copy_from.ensures)
          (publishes (registry_of c.args.registry.now) tick c.keeps_the_rules.ensures.made c.keeps_the_rules.ensures.routes c.requires.irqfds c.requires.watches low);
    }
