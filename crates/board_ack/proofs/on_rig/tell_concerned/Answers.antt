use Rattle.std.proofs.Common.{◌≡◌, false, Ok, refl, sym, ap, ◌∙◌}
use Rattle.board_model.specs.Published.{routing_of_words}
use Rattle.board_raise.specs.InHand.{parts_of}
use Rattle.board_ack.specs.Acknowledge.{concern, tell_concerned}
use Rattle.board_ack.proofs.Adding.{adds_on, adds_as}
use Rattle.board_ack.proofs.Stepping.{not_marked, marked_adds}
use Rattle.board_ack.proofs.on_rig.tell_concerned.Goals as goal

pub returns-then-not-marked-clause-does : goal.returns-then-not-marked-clause-does
returns-then-not-marked-clause-does g c = λ straight.
    let rig = c.args.rig.now in
    let asked = c.marked.new.self in
    let told = c.marked.ensures in
    let routing = routing_of_words (g.R.Rig.published rig) in
    let q = parts_of (g.R.Rig.held rig) in
    let ws = g.R.Rig.wishes rig in
    adds_as c.args.events.now.items c.args.events.now.items (parts_of (g.R.Rig.held asked)) q (g.R.Rig.wishes asked) ws (Ok tt) _ (ap parts_of told.kept) told.wishes
    (not_marked routing q ws c.args.gsi c.in-Some.gsi c.args.events.now.items c.in-Some.is (sym (told.told straight) ∙ c.if-not-marked.true))

pub returns-clause-does : goal.returns-clause-does
returns-clause-does g c = λ straight.
    let rig = c.args.rig.now in
    let first = c.marked.new.self in
    let asked = c.targets-targets.new.self in
    let marks = c.marked.ensures in
    let told = c.targets-targets.ensures in
    let left = c.concern.new.parts in
    let after = g.R.Rig.with_held asked left in
    let ws = g.R.Rig.wishes rig in
    let late : g.R.Rig.astray asked ≡ false = sym (g.met.R.Rig.astray_with asked left) ∙ straight in
    let early : g.R.Rig.astray first ≡ false = told.strays late in
    marked_adds (routing_of_words (g.R.Rig.published rig)) (parts_of (g.R.Rig.held rig)) ws c.args.gsi c.in-Some.gsi c.targets-targets.result c.args.events.now.items c.concern.new.events.items (parts_of (g.R.Rig.held after)) (g.R.Rig.wishes after) c.concern.result c.in-Some.is
    (sym (marks.told early) ∙ c.if-not-marked.false)
    (told.told late ∙ ap (λ words. (routing_of_words words).targets c.in-Some.gsi) marks.stands)
    (adds_on (concern c.targets-targets.result c.in-Some.gsi) (g.R.Rig.held rig) c.parts-parts.result.now left (g.R.Rig.held after) ws (g.R.Rig.wishes after) c.args.events.now.items c.concern.new.events.items c.concern.result
    (c.parts-parts.ensures.value ∙ told.kept ∙ marks.kept) (g.met.R.Rig.held_with asked left) (g.met.R.Rig.wishes_with asked left ∙ told.wishes ∙ marks.wishes) (c.concern.ensures.does ws))
