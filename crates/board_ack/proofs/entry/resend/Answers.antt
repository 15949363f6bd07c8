use Rattle.board_model.specs.Plan.{resent}
use Rattle.board_raise.specs.InHand.{parts_of}
use Rattle.board_ack.proofs.Stepping.{resent_adds, resent_stops}
use Rattle.board_ack.proofs.entry.resend.Goals as goal

pub returns-in-Ok-clause-does : goal.returns-in-Ok-clause-does
returns-in-Ok-clause-does g c =
    let after = c.send_of_pin.new.rig in
    resent_adds c.args.cpus c.args.pin (parts_of (g.R.Rig.held c.args.rig.now)) (g.R.Rig.wishes c.args.rig.now) c.args.message.now c.in-Ok.status c.args.events.now.items c.tell.new.events.items (parts_of (g.R.Rig.held after)) (g.R.Rig.wishes after)
    c.in-Ok.ensures.status c.tell.ensures (c.in-Ok.ensures.does (resent c.args.pin))

pub returns-in-Err-clause-does : goal.returns-in-Err-clause-does
returns-in-Err-clause-does g c =
    resent_stops c.args.cpus c.args.pin (parts_of (g.R.Rig.held c.args.rig.now)) (g.R.Rig.wishes c.args.rig.now) c.args.message.now c.in-Err.lacks.part (c.in-Err.ensures.does (resent c.args.pin))
