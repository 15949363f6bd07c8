use Rattle.board_model.specs.Plan.{ipi}
use Rattle.board_raise.specs.InHand.{parts_of}
use Rattle.board_calls.proofs.Telling.{ipi_tells, ipi_lacks}
use Rattle.board_calls.proofs.page.send_ipi.Goals as goal

pub returns-in-Ok-clause-does : goal.returns-in-Ok-clause-does
returns-in-Ok-clause-does g c =
    let rig = c.args.rig.now in
    let after = c.send.new.rig in
    ipi_tells c.args.shape.now.cpus c.args.n c.args.ipi.now (parts_of (g.R.Rig.held rig)) (g.R.Rig.wishes rig) c.args.events.now.items c.tell.new.events.items (parts_of (g.R.Rig.held after)) (g.R.Rig.wishes after)
    c.in-Ok.status c.in-Ok.ensures.status c.tell.ensures (c.in-Ok.ensures.does ipi)

pub returns-in-Err-clause-does : goal.returns-in-Err-clause-does
returns-in-Err-clause-does g c =
    let rig = c.args.rig.now in
    let after = c.send.new.rig in
    ipi_lacks c.args.shape.now.cpus c.args.n c.args.ipi.now (parts_of (g.R.Rig.held rig)) (g.R.Rig.wishes rig) c.args.events.now.items c.args.events.now.items (parts_of (g.R.Rig.held after)) (g.R.Rig.wishes after)
    c.in-Err.lacks (c.in-Err.ensures.does ipi)
