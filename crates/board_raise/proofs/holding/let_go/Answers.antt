use Rattle.std.proofs.Common.{[], Ok, Err}
use Rattle.board_raise.specs.InHand.{parts_of}
use Rattle.board_raise.specs.Signal.{let_go_pic, let_go_ioapic}
use Rattle.board_raise.proofs.Composing.{stops_first}
use Rattle.board_raise.proofs.Signalling.{let_go_next}
use Rattle.board_raise.proofs.holding.let_go.Goals as goal

pub returns-in-Ok-clause-does : goal.returns-in-Ok-clause-does
returns-in-Ok-clause-does c = λ ws.
    let_go_next c.args.targets.now c.args.source (parts_of c.args.parts.now) (parts_of c.let_go_pic.new.parts) (parts_of c.let_go_ioapic.new.parts) ws c.let_go_ioapic.result (c.in-Ok.ensures.does ws) (c.let_go_ioapic.ensures.does ws)

pub returns-in-Err-clause-does : goal.returns-in-Err-clause-does
returns-in-Err-clause-does c = λ ws.
    stops_first (λ _. let_go_ioapic c.args.targets.now.ioapic c.args.source) (let_go_pic c.args.targets.now.pic c.args.source) (parts_of c.args.parts.now) ws c.in-Err.lacks.part (c.in-Err.ensures.does ws)
