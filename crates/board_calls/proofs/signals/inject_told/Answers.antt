use Rattle.std.proofs.Common.{sym, ap, ◌∙◌, [], ◌∷◌, Some}
use Rattle.irq_base.specs.declared.event.Event.TheVariants.{Injected}
use Rattle.irq_base.specs.declared.message.Source.{Source}
use Rattle.irq_base.specs.declared.message.Targets.{Targets}
use Rattle.board_model.specs.Plan.{injected, done}
use Rattle.board_model.specs.Published.{routing_of_words}
use Rattle.board_model.specs.Run.{run_on}
use Rattle.board_raise.specs.InHand.{parts_of}
use Rattle.board_raise.specs.Shown.{in_event, without_sets}
use Rattle.board_raise.specs.Signal.{inject}
use Rattle.board_ack.proofs.Adding.{ends_adds}
use Rattle.board_calls.specs.Accesses.{ring_counter}
use Rattle.board_calls.specs.Registrations.{source_of}
use Rattle.board_calls.proofs.Composed.{over, ends_then, lacks_at_once}
use Rattle.board_calls.proofs.signals.inject_told.Goals as goal

pub returns-in-Ok-clause-does : goal.returns-in-Ok-clause-does
returns-in-Ok-clause-does g c = λ counter straight.
    let asked = c.targets-targets.ensures in
    let told = asked.told (sym c.in-Ok.ensures.strays ∙ straight) in
    let trigger = c.args.trigger in
    let start = c.args.rig.now in
    let rig = c.inject.new.rig in
    let after = parts_of (g.R.Rig.held rig) in
    let later = g.R.Rig.wishes rig in
    let routing = routing_of_words (g.R.Rig.published start) in
    ends_adds (Injected trigger.gsi c.in-Ok.status ∷ []) c.args.events.now.items c.tell.new.events.items after later
    (run_on (ring_counter routing c.args.shape.now counter (Some trigger)) (parts_of (g.R.Rig.held start)) (g.R.Rig.wishes start)) c.tell.ensures
    (ends_then (λ (x : Targets × Source). inject c.args.shape.now.cpus x.0 x.1 (λ pic. injected trigger.gsi pic)) (λ status. done tt) (c.targets-targets.result, c.source_of.result)
    (routing.targets trigger.gsi, source_of trigger.resample)
    (parts_of (g.R.Rig.held c.targets-targets.new.self)) (parts_of (g.R.Rig.held start)) (g.R.Rig.wishes c.targets-targets.new.self) (g.R.Rig.wishes start)
    (λ i. (told i, c.source_of.ensures.value i)) (ap parts_of asked.kept) asked.wishes
    (without_sets c.in-Ok.status) (Injected trigger.gsi c.in-Ok.status ∷ []) [] after later (c.in-Ok.ensures.does (in_event trigger.gsi)) after later (over after later))

pub returns-in-Err-clause-does : goal.returns-in-Err-clause-does
returns-in-Err-clause-does g c = λ counter straight.
    let asked = c.targets-targets.ensures in
    let told = asked.told (sym c.in-Err.ensures.strays ∙ straight) in
    let trigger = c.args.trigger in
    let start = c.args.rig.now in
    lacks_at_once (λ (x : Targets × Source). inject c.args.shape.now.cpus x.0 x.1 (λ pic. injected trigger.gsi pic)) (λ status. done tt) (c.targets-targets.result, c.source_of.result)
    ((routing_of_words (g.R.Rig.published start)).targets trigger.gsi, source_of trigger.resample)
    (parts_of (g.R.Rig.held c.targets-targets.new.self)) (parts_of (g.R.Rig.held start)) (g.R.Rig.wishes c.targets-targets.new.self) (g.R.Rig.wishes start)
    (λ i. (told i, c.source_of.ensures.value i)) (ap parts_of asked.kept) asked.wishes
    c.in-Err.lacks.part (c.in-Err.ensures.does (in_event trigger.gsi))
