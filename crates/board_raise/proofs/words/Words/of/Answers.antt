use Rattle.board_raise.proofs.Publishing.{publishes}
use Rattle.board_raise.specs.InHand.{registry_of}
use Rattle.board_raise.proofs.words.Words.of.Goals as goal

pub invariant_of-result : goal.invariant_of-result
invariant_of-result c = record { in_range = c.requires.tick; told = publishes (registry_of c.args.registry) c.args.tick c.keeps_the_rules.ensures.made c.keeps_the_rules.ensures.routes c.requires.irqfds c.requires.watches c.requires.tick }
