use Rattle.std.proofs.Common.{Ok, Err, refl}
use Rattle.board_raise.specs.InHand.{parts_of}
use Rattle.board_raise.specs.Signal.{let_go}
use Rattle.board_raise.proofs.Composing.{does_on}
use Rattle.board_raise.proofs.Signalling.{fall_needs, fall_holds}
use Rattle.board_raise.proofs.signals.lower_gsi.Goals as goal

pub returns-in-Ok-clause-reached : goal.returns-in-Ok-clause-reached
returns-in-Ok-clause-reached g c =
    let rig = c.args.rig.now in
    let ws = g.R.Rig.wishes rig in
    let left = c.let_go.new.parts in
    fall_holds c.args.targets.now c.args.source (parts_of (g.R.Rig.held rig)) ws (parts_of left) ws
    (does_on {S = Unit {0}} {A = Unit {0}} (λ _. tt) (Ok tt) (let_go c.args.targets.now c.args.source) (g.R.Rig.held rig) c.parts-parts.result.now left left ws ws c.parts-parts.ensures.value refl refl (c.in-Ok.ensures.does ws))

pub returns-in-Err-clause-lacks : goal.returns-in-Err-clause-lacks
returns-in-Err-clause-lacks g c =
    let rig = c.args.rig.now in
    let ws = g.R.Rig.wishes rig in
    let left = c.let_go.new.parts in
    fall_needs c.args.targets.now c.args.source (parts_of (g.R.Rig.held rig)) ws c.in-Err.lacks.part
    (does_on {S = Unit {0}} {A = Unit {0}} (λ _. tt) (Err c.in-Err.lacks) (let_go c.args.targets.now c.args.source) (g.R.Rig.held rig) c.parts-parts.result.now left left ws ws c.parts-parts.ensures.value refl refl (c.in-Err.ensures.does ws))
