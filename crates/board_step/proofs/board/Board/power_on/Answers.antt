use Rattle.board_step.proofs.Basics.{arith}
use Rattle.board_step.proofs.OpeningParts.{opened_is, opened_kept}
use Rattle.board_step.proofs.board.Board.power_on.Goals as goal

pub invariant_of-result : goal.invariant_of-result
invariant_of-result c =
    let off = c.if-not-is_in_limits.false in
    opened_kept c.args.shape.now c.in-Ok.rig (c.is_in_limits.ensures.0 (grind arith)) c.in-Ok.ensures

pub returns-in-Ok-clause-opens : goal.returns-in-Ok-clause-opens
returns-in-Ok-clause-opens c = opened_is c.args.shape.now c.in-Ok.rig c.in-Ok.ensures
