use Rattle.std.proofs.Common.{Ok, Err, refl, option_map}
use Rattle.board_raise.specs.InHand.{parts_of}
use Rattle.board_raise.specs.Signal.{pic_answer, raise_pic}
use Rattle.board_raise.specs.Shown.{in_reply}
use Rattle.board_raise.proofs.Composing.{does_on}
use Rattle.board_raise.proofs.Signalling.{raise_lacks_pic, raise_lacks, raise_shows, raise_needs, raise_holds}
use Rattle.board_raise.proofs.signals.raise_gsi.Goals as goal

pub returns-in-Err-clause-does : goal.returns-in-Err-clause-does
returns-in-Err-clause-does g c = λ place.
    let rig = c.args.rig.now in
    let ws = g.R.Rig.wishes rig in
    let left = c.raise_pic.new.parts in
    raise_lacks_pic c.args.cpus c.args.targets.now c.args.source place (parts_of (g.R.Rig.held rig)) ws c.in-Err.lacks.part
    (does_on (option_map pic_answer) (Err c.in-Err.lacks) (raise_pic c.args.targets.now.pic c.args.source) (g.R.Rig.held rig) c.parts-parts.result.now left left ws ws c.parts-parts.ensures.value refl refl (c.in-Err.ensures.does ws))

pub returns-in-Err-clause-lacks : goal.returns-in-Err-clause-lacks
returns-in-Err-clause-lacks g c =
    raise_needs c.args.cpus c.args.targets.now c.args.source (parts_of (g.R.Rig.held c.args.rig.now)) (g.R.Rig.wishes c.args.rig.now) c.in-Err.lacks.part (returns-in-Err-clause-does g c in_reply)

pub returns-in-Ok-raise_other-clause-does : goal.returns-in-Ok-raise_other-clause-does
returns-in-Ok-raise_other-clause-does g c = λ place.
    let rig = c.args.rig.now in
    let ws = g.R.Rig.wishes rig in
    let left = c.raise_pic.new.parts in
    let between = g.R.Rig.with_held rig left in
    let after = c.raise_other.new.rig in
    let pic = option_map pic_answer c.in-Ok.pic in
    raise_shows c.args.cpus c.args.targets.now c.args.source place (parts_of (g.R.Rig.held rig)) ws pic (parts_of (g.R.Rig.held between)) (g.R.Rig.wishes between)
    (does_on (option_map pic_answer) (Ok c.in-Ok.pic) (raise_pic c.args.targets.now.pic c.args.source) (g.R.Rig.held rig) c.parts-parts.result.now left (g.R.Rig.held between) ws (g.R.Rig.wishes between) c.parts-parts.ensures.value (g.met.R.Rig.held_with rig left) (g.met.R.Rig.wishes_with rig left) (c.in-Ok.ensures.does ws))
    c.in-Ok-raise_other.other c.status_beside.result (parts_of (g.R.Rig.held after)) (g.R.Rig.wishes after) c.status_beside.ensures (c.in-Ok-raise_other.ensures.does place pic)

pub returns-in-Ok-raise_other-clause-reached : goal.returns-in-Ok-raise_other-clause-reached
returns-in-Ok-raise_other-clause-reached g c =
    raise_holds c.args.cpus c.args.targets.now c.args.source (parts_of (g.R.Rig.held c.args.rig.now)) (g.R.Rig.wishes c.args.rig.now) c.status_beside.result (parts_of (g.R.Rig.held c.raise_other.new.rig)) (g.R.Rig.wishes c.raise_other.new.rig) (returns-in-Ok-raise_other-clause-does g c in_reply)

pub returns-in-Err-raise_other-clause-does : goal.returns-in-Err-raise_other-clause-does
returns-in-Err-raise_other-clause-does g c = λ place.
    let rig = c.args.rig.now in
    let ws = g.R.Rig.wishes rig in
    let left = c.raise_pic.new.parts in
    let between = g.R.Rig.with_held rig left in
    let pic = option_map pic_answer c.in-Ok.pic in
    raise_lacks c.args.cpus c.args.targets.now c.args.source place (parts_of (g.R.Rig.held rig)) ws pic (parts_of (g.R.Rig.held between)) (g.R.Rig.wishes between)
    (does_on (option_map pic_answer) (Ok c.in-Ok.pic) (raise_pic c.args.targets.now.pic c.args.source) (g.R.Rig.held rig) c.parts-parts.result.now left (g.R.Rig.held between) ws (g.R.Rig.wishes between) c.parts-parts.ensures.value (g.met.R.Rig.held_with rig left) (g.met.R.Rig.wishes_with rig left) (c.in-Ok.ensures.does ws))
    c.in-Err-raise_other.lacks.part (c.in-Err-raise_other.ensures.does place pic)

pub returns-in-Err-raise_other-clause-lacks : goal.returns-in-Err-raise_other-clause-lacks
returns-in-Err-raise_other-clause-lacks g c =
    raise_needs c.args.cpus c.args.targets.now c.args.source (parts_of (g.R.Rig.held c.args.rig.now)) (g.R.Rig.wishes c.args.rig.now) c.in-Err-raise_other.lacks.part (returns-in-Err-raise_other-clause-does g c in_reply)
