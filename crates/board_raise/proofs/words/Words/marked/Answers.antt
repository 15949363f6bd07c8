use Rattle.std.proofs.Common.{◌∙◌}
use Rattle.board_raise.specs.InHand.{registry_of}
use Rattle.board_raise.proofs.Publishing.{marked_told}
use Rattle.board_raise.proofs.words.Words.marked.Goals as goal

pub returns : goal.returns
returns c = c.marked_in.ensures ∙ marked_told (registry_of c.args.self.now.registry) c.args.self.now.tick c.args.self.now.told c.args.gsi
