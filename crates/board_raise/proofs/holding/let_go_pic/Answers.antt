use Rattle.board_raise.proofs.Signalling.{only_pic}
use Rattle.board_raise.proofs.holding.let_go_pic.Goals as goal

pub returns-in-Some-pic-clause-kept : goal.returns-in-Some-pic-clause-kept
returns-in-Some-pic-clause-kept c = only_pic c.args.parts.now c.in-Some-pic.part c.let_go.new.self c.in-Some-pic.is
