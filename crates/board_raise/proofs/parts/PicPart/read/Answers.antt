use Rattle.std.proofs.Common.{ap, ◌∙◌}
use Rattle.pic_8259a.specs.Pair.{read_from}
use Rattle.board_model.specs.Chips.{with_pair}
use Rattle.board_raise.specs.InHand.{pic_of}
use Rattle.board_raise.proofs.PinsInHand.{pair_is}
use Rattle.board_raise.proofs.parts.PicPart.read.Goals as goal

pub returns-clause-after : goal.returns-clause-after
returns-clause-after c = ap (with_pair (pic_of c.args.self.now)) (c.read.ensures.after ∙ ap (λ pair. (read_from pair c.args.port).after) (pair_is c.args.self.now c.requires.fits))

pub returns-clause-value : goal.returns-clause-value
returns-clause-value c = c.read.ensures.value ∙ ap (λ pair. (read_from pair c.args.port).value) (pair_is c.args.self.now c.requires.fits)
