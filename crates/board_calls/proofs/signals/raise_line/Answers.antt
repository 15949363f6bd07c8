use Rattle.std.proofs.Common.{sym, ap, ◌∙◌}
use Rattle.irq_base.specs.declared.message.Source.TheVariants.{Line}
use Rattle.irq_base.specs.declared.message.Targets.{Targets}
use Rattle.irq_base.specs.declared.reply.Reply.TheVariants.{Signal}
use Rattle.board_model.specs.Plan.{the_reply, done}
use Rattle.board_model.specs.Published.{routing_of_words}
use Rattle.board_raise.specs.InHand.{parts_of}
use Rattle.board_raise.specs.Shown.{in_reply, without_sets}
use Rattle.board_raise.specs.Signal.{raise}
use Rattle.board_calls.proofs.Composed.{over, replied_then, lacks_at_once}
use Rattle.board_calls.proofs.signals.raise_line.Goals as goal

pub returns-in-Ok-clause-does : goal.returns-in-Ok-clause-does
returns-in-Ok-clause-does g c = λ straight.
    let asked = c.targets-targets.ensures in
    let rig = c.raise_gsi.new.rig in
    let after = parts_of (g.R.Rig.held rig) in
    replied_then (λ (t : Targets). raise c.args.shape.now.cpus t (Line c.args.line) (λ pic. the_reply pic)) (λ status. done tt) c.targets-targets.result ((routing_of_words (g.R.Rig.published c.args.rig.now)).targets c.args.gsi)
    (parts_of (g.R.Rig.held c.targets-targets.new.self)) (parts_of (g.R.Rig.held c.args.rig.now)) (g.R.Rig.wishes c.targets-targets.new.self) (g.R.Rig.wishes c.args.rig.now)
    (asked.told (sym c.in-Ok.ensures.strays ∙ straight)) (ap parts_of asked.kept) asked.wishes
    (without_sets c.in-Ok.status) (Signal c.in-Ok.status) after (g.R.Rig.wishes rig) (c.in-Ok.ensures.does in_reply) after (g.R.Rig.wishes rig) (over after (g.R.Rig.wishes rig))

pub returns-in-Err-clause-does : goal.returns-in-Err-clause-does
returns-in-Err-clause-does g c = λ straight.
    let asked = c.targets-targets.ensures in
    lacks_at_once (λ (t : Targets). raise c.args.shape.now.cpus t (Line c.args.line) (λ pic. the_reply pic)) (λ status. done tt) c.targets-targets.result ((routing_of_words (g.R.Rig.published c.args.rig.now)).targets c.args.gsi)
    (parts_of (g.R.Rig.held c.targets-targets.new.self)) (parts_of (g.R.Rig.held c.args.rig.now)) (g.R.Rig.wishes c.targets-targets.new.self) (g.R.Rig.wishes c.args.rig.now)
    (asked.told (sym c.in-Err.ensures.strays ∙ straight)) (ap parts_of asked.kept) asked.wishes
    c.in-Err.lacks.part (c.in-Err.ensures.does in_reply)
