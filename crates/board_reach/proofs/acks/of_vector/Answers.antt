use Rattle.board_reach.proofs.Basics.{sym, ◌∙◌, arith}
use Rattle.board_reach.proofs.SeenNow.{vector_found, vector_none}
use Rattle.board_reach.proofs.acks.of_vector.Goals as goal

pub returns-then-is_ended : goal.returns-then-is_ended
returns-then-is_ended c = vector_found c.args.seen.now c.args.vector c.args.part c.loop-pin.pin c.loop-pin-test.true (sym c.is_ended.ensures ∙ c.if-is_ended.true)

pub returns : goal.returns
returns c =
    vector_none c.args.seen.now c.args.vector c.args.part c.loop-pin.pin (omega (arith, c.loop-pin.invariant.0)) c.loop-pin.invariant.1
