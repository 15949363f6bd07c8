use Rattle.std.proofs.Common.{true≢false, refl, sym, ap, ◌∙◌}
use Rattle.board_model.specs.Run.{next_wish, later_wishes}
use Rattle.board_raise.specs.declared.parts.Parts.{Parts}
use Rattle.board_raise.specs.Send.{reached_by}
use Rattle.board_model.specs.Following.{reached}
use Rattle.board_raise.specs.OnRow.{sent_in}
use Rattle.board_raise.proofs.Telling.{lacking_at, nobody_at, illegal_at, delivered_at, only_at, fits_still}
use Rattle.board_raise.proofs.Lacking.{all_holds, lacks_reached}
use Rattle.board_raise.proofs.on_rig.send.Goals as goal

pub returns-in-Err-clause-does : goal.returns-in-Err-clause-does
returns-in-Err-clause-does g c = λ about.
    let rig = c.args.rig.now in
    let lent = c.parts-parts.result.now in
    let after = g.R.Rig.with_held rig lent in
    lacking_at c.args.cpus c.args.message.now c.args.from (g.R.Rig.held rig) (g.R.Rig.wishes rig) (sym c.if-not-is_taken.ensures) about lent (g.R.Rig.held after) (g.R.Rig.wishes after) c.in-Err.lacks c.parts-parts.ensures.value c.in-Err.ensures.lacking

pub returns-in-Err-clause-lacks : goal.returns-in-Err-clause-lacks
returns-in-Err-clause-lacks g c =
    lacks_reached c.args.cpus c.args.message.now c.args.from (g.R.Rig.held c.args.rig.now) (sym c.if-not-is_taken.ensures) c.parts-parts.result.now c.in-Err.lacks.part c.parts-parts.ensures.value c.in-Err.ensures.lacking

pub returns-then-is_empty-clause-does : goal.returns-then-is_empty-clause-does
returns-then-is_empty-clause-does g c = λ about.
    let rig = c.args.rig.now in
    let lent = c.parts-parts.result.now in
    let after = g.R.Rig.with_held rig lent in
    nobody_at c.args.cpus c.args.message.now c.args.from (g.R.Rig.held rig) (g.R.Rig.wishes rig) (sym c.if-not-is_taken.ensures) lent c.parts-parts.ensures.value c.in-Ok.ensures.lacking c.in-Ok.named.all c.in-Ok.ensures.named
    about (g.R.Rig.held after) (g.R.Rig.wishes after) (c.if-is_empty.ensures.0 refl) (g.met.R.Rig.held_with rig lent) (g.met.R.Rig.wishes_with rig lent)

pub returns-then-is_empty-clause-reached : goal.returns-then-is_empty-clause-reached
returns-then-is_empty-clause-reached g c =
    all_holds c.args.cpus c.args.message.now c.args.from (g.R.Rig.held c.args.rig.now) c.parts-parts.result.now c.parts-parts.ensures.value c.in-Ok.ensures.lacking

pub returns-then-is_illegal-clause-does : goal.returns-then-is_illegal-clause-does
returns-then-is_illegal-clause-does g c = λ about.
    let rig = c.args.rig.now in
    let lent = c.parts-parts.result.now in
    let row = c.record_illegal.new.row in
    let left : Parts = record lent { lapics = row } in
    let after = g.R.Rig.with_held rig left in
    illegal_at c.args.cpus c.args.message.now c.args.from (g.R.Rig.held rig) (g.R.Rig.wishes rig) (sym c.if-not-is_taken.ensures) lent c.parts-parts.ensures.value c.in-Ok.ensures.lacking c.in-Ok.named.all c.in-Ok.ensures.named
    (λ none. true≢false (sym (c.if-is_empty.ensures.1 none)))
    about (g.R.Rig.held after) row (g.R.Rig.wishes after) (sym c.if-is_illegal.ensures) c.record_illegal.ensures (g.met.R.Rig.held_with rig left) (g.met.R.Rig.wishes_with rig left)

pub returns-then-is_illegal-clause-reached : goal.returns-then-is_illegal-clause-reached
returns-then-is_illegal-clause-reached g c =
    all_holds c.args.cpus c.args.message.now c.args.from (g.R.Rig.held c.args.rig.now) c.parts-parts.result.now c.parts-parts.ensures.value c.in-Ok.ensures.lacking

pub returns-then-is_illegal-clause-kept : goal.returns-then-is_illegal-clause-kept
returns-then-is_illegal-clause-kept g c =
    let rig = c.args.rig.now in
    let lent = c.parts-parts.result.now in
    let row = c.record_illegal.new.row in
    let left : Parts = record lent { lapics = row } in
    only_at c.args.message.now c.in-Ok.named.all (reached_by c.args.message.now c.args.from c.args.cpus) (g.R.Rig.held rig) lent (g.R.Rig.held (g.R.Rig.with_held rig left)) row c.parts-parts.ensures.value c.record_illegal.ensures (g.met.R.Rig.held_with rig left)

pub returns-then-is_illegal-clause-fits : goal.returns-then-is_illegal-clause-fits
returns-then-is_illegal-clause-fits g c =
    let rig = c.args.rig.now in
    let left : Parts = record c.parts-parts.result.now { lapics = c.record_illegal.new.row } in
    fits_still (g.R.Rig.held rig) (g.R.Rig.held (g.R.Rig.with_held rig left)) (returns-then-is_illegal-clause-kept g c)

pub returns-clause-does : goal.returns-clause-does
returns-clause-does g c = λ about.
    let rig = c.args.rig.now in
    let lent = c.parts-parts.result.now in
    let asked = c.wish-wish.new.self in
    let again = c.parts-parts-2.result.now in
    let row = c.deliver-reached.new.row in
    let left : Parts = record again { lapics = row } in
    let after = g.R.Rig.with_held asked left in
    let before = g.R.Rig.with_held rig lent in
    delivered_at c.args.cpus c.args.message.now c.args.from (g.R.Rig.held rig) (g.R.Rig.wishes rig) (sym c.if-not-is_taken.ensures) lent c.parts-parts.ensures.value c.in-Ok.ensures.lacking c.in-Ok.named.all c.in-Ok.ensures.named
    (λ none. true≢false (sym (c.if-is_empty.ensures.1 none)))
    about again (g.R.Rig.held after) row c.wish-wish.result (record { new = c.deliver-reached.result.new; stood = c.deliver-reached.result.stood }) c.status_of.result (g.R.Rig.wishes after) (sym c.if-is_illegal.ensures)
    (c.parts-parts-2.ensures.value ∙ c.wish-wish.ensures.kept ∙ g.met.R.Rig.held_with rig lent ∙ c.parts-parts.ensures.value)
    (c.wish-wish.ensures.value ∙ ap next_wish (g.met.R.Rig.wishes_with rig lent))
    c.deliver-reached.ensures.sent c.status_of.ensures c.deliver-reached.ensures.row
    (g.met.R.Rig.held_with asked left)
    (g.met.R.Rig.wishes_with asked left ∙ c.wish-wish.ensures.later ∙ ap later_wishes (g.met.R.Rig.wishes_with rig lent))

pub returns-clause-reached : goal.returns-clause-reached
returns-clause-reached g c =
    all_holds c.args.cpus c.args.message.now c.args.from (g.R.Rig.held c.args.rig.now) c.parts-parts.result.now c.parts-parts.ensures.value c.in-Ok.ensures.lacking

pub returns-clause-kept : goal.returns-clause-kept
returns-clause-kept g c =
    let rig = c.args.rig.now in
    let asked = c.wish-wish.new.self in
    let again = c.parts-parts-2.result.now in
    let row = c.deliver-reached.new.row in
    let left : Parts = record again { lapics = row } in
    let reach = reached_by c.args.message.now c.args.from c.args.cpus in
    only_at c.args.message.now (reached (sent_in again.lapics reach c.args.message.now c.args.from c.wish-wish.result)) reach (g.R.Rig.held rig) again (g.R.Rig.held (g.R.Rig.with_held asked left)) row
    (c.parts-parts-2.ensures.value ∙ c.wish-wish.ensures.kept ∙ g.met.R.Rig.held_with rig c.parts-parts.result.now ∙ c.parts-parts.ensures.value)
    c.deliver-reached.ensures.row (g.met.R.Rig.held_with asked left)

pub returns-clause-fits : goal.returns-clause-fits
returns-clause-fits g c =
    let rig = c.args.rig.now in
    let asked = c.wish-wish.new.self in
    let left : Parts = record c.parts-parts-2.result.now { lapics = c.deliver-reached.new.row } in
    fits_still (g.R.Rig.held rig) (g.R.Rig.held (g.R.Rig.with_held asked left)) (returns-clause-kept g c)
