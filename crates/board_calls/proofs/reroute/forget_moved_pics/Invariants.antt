use Rattle.std.proofs.Common.{◌≡◌}
use Rattle.board_raise.specs.Fit.{PairFits}
use Rattle.board_raise.specs.InHand.{pic_of}
use Rattle.board_calls.proofs.Holding.{kept_up_to}
use Rattle.board_calls.proofs.reroute.forget_moved_pics.Given as goal

-- the pins so far have lost their holds where their GSI moved
abbrev pub invariant-loop-pin : goal.invariant-loop-pin
invariant-loop-pin l =
    (pic_of l.part ≡ record (pic_of l.initial.part) { holds = kept_up_to l.before l.after l.pin l.initial.part.levels })
    × (PairFits l.initial.part.pair l.initial.part.levels → PairFits l.part.pair l.part.levels)
