use Rattle.std.proofs.Common.{◌≡◌, false, Ok, Err, refl, sym, ap, ◌∙◌, subst}
use Rattle.irq_base.specs.declared.message.Source.TheVariants as sources
use Rattle.irq_base.specs.declared.message.Targets.{Targets}
use Rattle.irq_base.specs.declared.shape.Part.TheVariants as parts
use Rattle.tick_reinject.specs.Ticks.{tick_injected}
use Rattle.board_model.specs.Published.{routing_of_words}
use Rattle.board_model.specs.Plan.{change}
use Rattle.board_model.specs.Run.{run_on}
use Rattle.board_raise.specs.InHand.{parts_of}
use Rattle.board_raise.specs.Signal.{inject}
use Rattle.board_raise.specs.Shown.{about_at, Shows}
use Rattle.board_raise.proofs.Composing.{does_on}
use Rattle.board_ack.proofs.Adding.{stops_from}
use Rattle.board_ack.proofs.Stepping.{tick_lacks, tick_shows, tick_stops}
use Rattle.board_ack.proofs.ticks.inject_tick.Goals as goal

pub returns-in-Err-clause-does : goal.returns-in-Err-clause-does
returns-in-Err-clause-does g c = λ straight place.
    let rig = c.args.rig.now in
    let asked = c.targets-targets.new.self in
    let told = c.targets-targets.ensures in
    let targets = c.targets-targets.result in
    let before : g.R.Rig.astray asked ≡ false = sym c.inject.ensures.strays ∙ straight in
    tick_lacks (routing_of_words (g.R.Rig.published rig)) c.args.shape.now place (parts_of (g.R.Rig.held rig)) (g.R.Rig.wishes rig) targets c.in-Err.lacks.part (told.told before)
    (stops_from (inject c.args.shape.now.cpus targets sources.Tick (about_at place)) (g.R.Rig.held rig) (g.R.Rig.held asked) (g.R.Rig.wishes rig) (g.R.Rig.wishes asked) c.in-Err.lacks.part told.kept told.wishes (c.in-Err.ensures.does place))

pub returns-in-Ok-tick_injected-clause-does : goal.returns-in-Ok-tick_injected-clause-does
returns-in-Ok-tick_injected-clause-does g c = λ straight place.
    let rig = c.args.rig.now in
    let asked = c.targets-targets.new.self in
    let told = c.targets-targets.ensures in
    let targets = c.targets-targets.result in
    let done = c.inject.new.rig in
    let left = c.tick_injected.new.parts in
    let after = g.R.Rig.with_held done left in
    let vs = g.R.Rig.wishes done in
    let before : g.R.Rig.astray asked ≡ false = sym c.inject.ensures.strays ∙ sym (g.met.R.Rig.astray_with done left) ∙ straight in
    tick_shows (routing_of_words (g.R.Rig.published rig)) c.args.shape.now place (parts_of (g.R.Rig.held rig)) (g.R.Rig.wishes rig) targets c.in-Ok.status (parts_of (g.R.Rig.held done)) vs (told.told before)
    (subst (Shows place (Ok c.in-Ok.status) (parts_of (g.R.Rig.held done)) vs) (λ i. run_on (inject c.args.shape.now.cpus targets sources.Tick (about_at place)) (parts_of (told.kept i)) (told.wishes i)) (c.in-Ok.ensures.does place))
    (parts_of (g.R.Rig.held after)) (g.R.Rig.wishes after)
    (does_on {S = Unit {0}} {A = Unit {0}} (λ _. tt) (Ok tt) (change parts.Tick (λ tick. tick_injected tick c.in-Ok.status)) (g.R.Rig.held done) c.parts-parts.result.now left (g.R.Rig.held after) vs (g.R.Rig.wishes after) c.parts-parts.ensures.value (g.met.R.Rig.held_with done left) (g.met.R.Rig.wishes_with done left) (c.in-Ok-tick_injected.ensures.does vs))

pub returns-in-Err-tick_injected-clause-does : goal.returns-in-Err-tick_injected-clause-does
returns-in-Err-tick_injected-clause-does g c = λ straight place.
    let rig = c.args.rig.now in
    let asked = c.targets-targets.new.self in
    let told = c.targets-targets.ensures in
    let targets = c.targets-targets.result in
    let done = c.inject.new.rig in
    let left = c.tick_injected.new.parts in
    let vs = g.R.Rig.wishes done in
    let before : g.R.Rig.astray asked ≡ false = sym c.inject.ensures.strays ∙ sym (g.met.R.Rig.astray_with done left) ∙ straight in
    tick_stops (routing_of_words (g.R.Rig.published rig)) c.args.shape.now place (parts_of (g.R.Rig.held rig)) (g.R.Rig.wishes rig) targets c.in-Ok.status (parts_of (g.R.Rig.held done)) vs (told.told before)
    (subst (Shows place (Ok c.in-Ok.status) (parts_of (g.R.Rig.held done)) vs) (λ i. run_on (inject c.args.shape.now.cpus targets sources.Tick (about_at place)) (parts_of (told.kept i)) (told.wishes i)) (c.in-Ok.ensures.does place))
    c.in-Err-tick_injected.lacks.part
    (does_on {S = Unit {0}} {A = Unit {0}} (λ _. tt) (Err c.in-Err-tick_injected.lacks) (change parts.Tick (λ tick. tick_injected tick c.in-Ok.status)) (g.R.Rig.held done) c.parts-parts.result.now left left vs vs c.parts-parts.ensures.value refl refl (c.in-Err-tick_injected.ensures.does vs))
