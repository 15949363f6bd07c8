use Rattle.std.proofs.Common.{Ok, Err, refl}
use Rattle.board_raise.specs.InHand.{parts_of}
use Rattle.board_raise.specs.Shown.{in_reply}
use Rattle.board_raise.specs.Signal.{let_go_after}
use Rattle.board_raise.proofs.Composing.{does_on}
use Rattle.board_raise.proofs.Signalling.{inject_lacks, inject_shows, inject_stops, inject_needs}
use Rattle.board_raise.proofs.signals.inject.Goals as goal

pub returns-in-Err-clause-does : goal.returns-in-Err-clause-does
returns-in-Err-clause-does g c = λ place.
    inject_lacks c.args.cpus c.args.targets.now c.args.source place (parts_of (g.R.Rig.held c.args.rig.now)) (g.R.Rig.wishes c.args.rig.now) c.in-Err.lacks.part (c.in-Err.ensures.does place)

pub returns-in-Ok-let_go_after-clause-does : goal.returns-in-Ok-let_go_after-clause-does
returns-in-Ok-let_go_after-clause-does g c = λ place.
    let rig = c.raise_gsi.new.rig in
    let vs = g.R.Rig.wishes rig in
    let left = c.let_go_after.new.parts in
    let after = g.R.Rig.with_held rig left in
    inject_shows c.args.cpus c.args.targets.now c.args.source place (parts_of (g.R.Rig.held c.args.rig.now)) (g.R.Rig.wishes c.args.rig.now) c.in-Ok.status (parts_of (g.R.Rig.held rig)) vs (c.in-Ok.ensures.does place) (parts_of (g.R.Rig.held after)) (g.R.Rig.wishes after)
    (does_on {S = Unit {0}} {A = Unit {0}} (λ _. tt) (Ok tt) (let_go_after c.args.targets.now c.args.source) (g.R.Rig.held rig) c.parts-parts.result.now left (g.R.Rig.held after) vs (g.R.Rig.wishes after) c.parts-parts.ensures.value (g.met.R.Rig.held_with rig left) (g.met.R.Rig.wishes_with rig left) (c.in-Ok-let_go_after.ensures.does vs))

pub returns-in-Err-let_go_after-clause-does : goal.returns-in-Err-let_go_after-clause-does
returns-in-Err-let_go_after-clause-does g c = λ place.
    let rig = c.raise_gsi.new.rig in
    let vs = g.R.Rig.wishes rig in
    let left = c.let_go_after.new.parts in
    inject_stops c.args.cpus c.args.targets.now c.args.source place (parts_of (g.R.Rig.held c.args.rig.now)) (g.R.Rig.wishes c.args.rig.now) c.in-Ok.status (parts_of (g.R.Rig.held rig)) vs (c.in-Ok.ensures.does place) c.in-Err-let_go_after.lacks.part
    (does_on {S = Unit {0}} {A = Unit {0}} (λ _. tt) (Err c.in-Err-let_go_after.lacks) (let_go_after c.args.targets.now c.args.source) (g.R.Rig.held rig) c.parts-parts.result.now left left vs vs c.parts-parts.ensures.value refl refl (c.in-Err-let_go_after.ensures.does vs))

pub returns-in-Err-let_go_after-clause-lacks : goal.returns-in-Err-let_go_after-clause-lacks
returns-in-Err-let_go_after-clause-lacks g c =
    inject_needs c.args.cpus c.args.targets.now c.args.source (parts_of (g.R.Rig.held c.args.rig.now)) (g.R.Rig.wishes c.args.rig.now) c.in-Err-let_go_after.lacks.part (returns-in-Err-let_go_after-clause-does g c in_reply)
