use Rattle.std.proofs.Common.{ap, ◌∙◌}
use Rattle.pic_8259a.specs.Pair.{cycle}
use Rattle.board_model.specs.Chips.{with_pair}
use Rattle.board_raise.specs.InHand.{pic_of}
use Rattle.board_raise.proofs.PinsInHand.{pair_is}
use Rattle.board_raise.proofs.parts.PicPart.inta.Goals as goal

pub returns-clause-after : goal.returns-clause-after
returns-clause-after c = ap (with_pair (pic_of c.args.self.now)) (c.inta.ensures.after ∙ ap (λ pair. (cycle pair).after) (pair_is c.args.self.now c.requires.fits))

pub returns-clause-vector : goal.returns-clause-vector
returns-clause-vector c = c.inta.ensures.vector ∙ ap (λ pair. (cycle pair).vector) (pair_is c.args.self.now c.requires.fits)

pub returns-clause-pins : goal.returns-clause-pins
returns-clause-pins c = c.inta.ensures.pins ∙ ap (λ pair. (cycle pair).pins) (pair_is c.args.self.now c.requires.fits)
