use Rattle.board_raise.specs.InHand.{pic_of}
use Rattle.board_raise.specs.Signal.{pic_raised}
use Rattle.board_raise.proofs.PinsInHand.{pic_fits, pic_rises}
use Rattle.board_raise.proofs.parts.PicPart.raise.Goals as goal

pub returns-clause-fits : goal.returns-clause-fits
returns-clause-fits c =
    pic_fits (pic_raised (pic_of c.args.self.now) c.args.pin c.args.source) c.set_pin.new.self c.raise.new.self
    (pic_rises c.args.self.now c.requires.fits c.args.pin c.args.source c.requires.pin c.set_pin.new.self c.set_pin.ensures.after) c.raise.ensures
