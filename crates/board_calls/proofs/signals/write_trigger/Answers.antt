use Rattle.std.proofs.Common.{sym, ap, ◌∙◌}
use Rattle.irq_base.specs.declared.message.Source.{Source}
use Rattle.irq_base.specs.declared.message.Targets.{Targets}
use Rattle.irq_base.specs.declared.reply.Reply.TheVariants.{Signal}
use Rattle.board_model.specs.Plan.{the_reply, done}
use Rattle.board_model.specs.Published.{routing_of_words}
use Rattle.board_raise.specs.InHand.{parts_of}
use Rattle.board_raise.specs.Shown.{in_reply, without_sets}
use Rattle.board_raise.specs.Signal.{inject}
use Rattle.board_calls.specs.Registrations.{source_of}
use Rattle.board_calls.proofs.Composed.{over, replied_then, lacks_at_once}
use Rattle.board_calls.proofs.signals.write_trigger.Goals as goal

pub returns-in-Ok-clause-does : goal.returns-in-Ok-clause-does
returns-in-Ok-clause-does g c = λ straight.
    let asked = c.targets-targets.ensures in
    let told = asked.told (sym c.in-Ok.ensures.strays ∙ straight) in
    let rig = c.inject.new.rig in
    let after = parts_of (g.R.Rig.held rig) in
    replied_then (λ (x : Targets × Source). inject c.args.shape.now.cpus x.0 x.1 (λ pic. the_reply pic)) (λ status. done tt) (c.targets-targets.result, c.source_of.result)
    ((routing_of_words (g.R.Rig.published c.args.rig.now)).targets c.args.trigger.gsi, source_of c.args.trigger.resample)
    (parts_of (g.R.Rig.held c.targets-targets.new.self)) (parts_of (g.R.Rig.held c.args.rig.now)) (g.R.Rig.wishes c.targets-targets.new.self) (g.R.Rig.wishes c.args.rig.now)
    (λ i. (told i, c.source_of.ensures.value i)) (ap parts_of asked.kept) asked.wishes
    (without_sets c.in-Ok.status) (Signal c.in-Ok.status) after (g.R.Rig.wishes rig) (c.in-Ok.ensures.does in_reply) after (g.R.Rig.wishes rig) (over after (g.R.Rig.wishes rig))

pub returns-in-Err-clause-does : goal.returns-in-Err-clause-does
returns-in-Err-clause-does g c = λ straight.
    let asked = c.targets-targets.ensures in
    let told = asked.told (sym c.in-Err.ensures.strays ∙ straight) in
    lacks_at_once (λ (x : Targets × Source). inject c.args.shape.now.cpus x.0 x.1 (λ pic. the_reply pic)) (λ status. done tt) (c.targets-targets.result, c.source_of.result)
    ((routing_of_words (g.R.Rig.published c.args.rig.now)).targets c.args.trigger.gsi, source_of c.args.trigger.resample)
    (parts_of (g.R.Rig.held c.targets-targets.new.self)) (parts_of (g.R.Rig.held c.args.rig.now)) (g.R.Rig.wishes c.targets-targets.new.self) (g.R.Rig.wishes c.args.rig.now)
    (λ i. (told i, c.source_of.ensures.value i)) (ap parts_of asked.kept) asked.wishes
    c.in-Err.lacks.part (c.in-Err.ensures.does in_reply)
