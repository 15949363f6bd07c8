use Rattle.std.proofs.Common.{refl, None}
use Rattle.irq_base.specs.declared.message.Message.{Message}
use Rattle.irq_base.specs.declared.reply.Reply.TheVariants.{Signal}
use Rattle.msi_decode.specs.Messages.{message_in}
use Rattle.board_model.specs.Plan.{the_reply, done}
use Rattle.board_model.specs.Run.{run_on}
use Rattle.board_raise.specs.InHand.{parts_of}
use Rattle.board_raise.specs.Send.{send}
use Rattle.board_raise.specs.Told.{answer_in}
use Rattle.board_calls.proofs.Composed.{over, replied_then, lacks_at_once, message_replied, message_lacks}
use Rattle.board_calls.proofs.signals.send_message.Goals as goal

pub returns-in-Ok-clause-does : goal.returns-in-Ok-clause-does
returns-in-Ok-clause-does g c =
    let cpus = c.args.shape.now.cpus in
    let q = parts_of (g.R.Rig.held c.args.rig.now) in
    let ws = g.R.Rig.wishes c.args.rig.now in
    let after = parts_of (g.R.Rig.held c.send.new.rig) in
    let later = g.R.Rig.wishes c.send.new.rig in
    replied_then (λ (m : Message). send cpus m None (the_reply None)) (λ answer. done tt) c.message_of.result (message_in c.args.address c.args.payload) q q ws ws c.message_of.ensures refl refl
    (answer_in c.in-Ok.status) (Signal c.in-Ok.status) after later
    (message_replied c.message_of.result c.in-Ok.status after later (run_on (send cpus c.message_of.result None (the_reply None)) q ws) c.in-Ok.ensures.status (c.in-Ok.ensures.does (the_reply None)))
    after later (over after later)

pub returns-in-Err-clause-does : goal.returns-in-Err-clause-does
returns-in-Err-clause-does g c =
    let cpus = c.args.shape.now.cpus in
    let q = parts_of (g.R.Rig.held c.args.rig.now) in
    let ws = g.R.Rig.wishes c.args.rig.now in
    lacks_at_once (λ (m : Message). send cpus m None (the_reply None)) (λ answer. done tt) c.message_of.result (message_in c.args.address c.args.payload) q q ws ws c.message_of.ensures refl refl
    c.in-Err.lacks.part
    (message_lacks c.message_of.result c.in-Err.lacks (parts_of (g.R.Rig.held c.send.new.rig)) (g.R.Rig.wishes c.send.new.rig) (run_on (send cpus c.message_of.result None (the_reply None)) q ws) (c.in-Err.ensures.does (the_reply None)))
