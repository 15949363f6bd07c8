use Rattle.std.proofs.Common.{sym, ap, ◌∙◌}
use Rattle.source_levels.specs.Holds.{is_high}
use Rattle.board_raise.specs.InHand.{pic_of}
use Rattle.board_raise.specs.Signal.{pic_let_go}
use Rattle.board_raise.proofs.PinsInHand.{pic_fits, pic_falls, pic_stays}
use Rattle.board_raise.proofs.parts.PicPart.let_go.Goals as goal

pub returns-then-not-high-clause-fits : goal.returns-then-not-high-clause-fits
returns-then-not-high-clause-fits c =
    pic_fits (pic_let_go (pic_of c.args.self.now) c.args.pin c.args.source) c.set_pin-lowered.new.self c.lower.new.self
    (pic_falls c.args.self.now c.requires.fits c.args.pin c.args.source c.requires.pin c.set_pin-lowered.new.self (sym (ap (λ s. is_high s c.args.pin) c.lower.ensures) ∙ sym c.high.ensures.value ∙ c.if-not-high.true) c.set_pin-lowered.ensures.after)
    c.lower.ensures

pub returns-else-not-high-clause-fits : goal.returns-else-not-high-clause-fits
returns-else-not-high-clause-fits c =
    pic_fits (pic_let_go (pic_of c.args.self.now) c.args.pin c.args.source) c.args.self.now.pair c.lower.new.self
    (pic_stays c.args.self.now c.requires.fits c.args.pin c.args.source c.requires.pin (sym (ap (λ s. is_high s c.args.pin) c.lower.ensures) ∙ sym c.high.ensures.value ∙ c.if-not-high.false)) c.lower.ensures
