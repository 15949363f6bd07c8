use Rattle.std.proofs.Common.{false, sym, subst}
use Rattle.source_levels.specs.Holds.{Holds}
use Rattle.pic_8259a.specs.declared.pair.Pair.{Pair}
use Rattle.pic_8259a.specs.Pair.{pin_set}
use Rattle.board_raise.specs.Fit.{PairFits}
use Rattle.board_calls.proofs.Holding.{pic_forgets}
use Rattle.board_calls.proofs.reroute.forget_pic.Goals as goal

pub returns-clause-fits : goal.returns-clause-fits
returns-clause-fits c = λ fits.
    subst (λ (pair : Pair). PairFits pair c.forget.new.self) (sym c.set_pin-low.ensures.after)
    (subst (λ (levels : Holds). PairFits (pin_set c.args.part.now.pair c.args.pin false) levels) (sym c.forget.ensures) (pic_forgets c.args.part.now.pair c.args.part.now.levels c.args.pin c.requires fits))
