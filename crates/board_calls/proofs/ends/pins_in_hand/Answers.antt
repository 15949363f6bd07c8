use Rattle.board_calls.proofs.Marked.{pins_seen_ends}
use Rattle.board_calls.proofs.ends.pins_in_hand.Goals as goal

pub returns-in-Some-clause-does : goal.returns-in-Some-clause-does
returns-in-Some-clause-does c = λ ws. pins_seen_ends c.args.parts.now c.in-Some.part c.in-Some.is c.pins_with.result c.args.vector c.pins_with.ensures ws
