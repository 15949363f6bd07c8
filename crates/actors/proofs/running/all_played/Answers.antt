use Rattle.std.proofs.Common.{rules, ◌≡◌, length, slice_index_or, ap, ◌∙◌, subst, arith}
use Rattle.actors.specs.Kept.{HasPlayed}
use Rattle.actors.proofs.Seating.{can_play, have_played, face_at, many_seats}
use Rattle.actors.proofs.running.all_played.Goals as goal

pub map_vec-requires-after_bounds : goal.map_vec-requires-after_bounds
map_vec-requires-after_bounds g c κs within = λ i x low at. (
  can_play g.F.Face c.args.script.now c.args.faces.items c.in_ok-seats.seats.items c.in_ok-seats.ensures c.requires.script c.requires.callers c.requires.stops i x low at,
  (search rules, search rules),
)

pub returns-in-Ok : goal.returns-in-Ok
returns-in-Ok g c =
    let fs = c.args.faces.items in
    let seats = c.in_ok-seats.seats.items in
    let ps = c.in-Ok.played.items in
    let s = c.args.script.now in
    let many : length seats ≡ length fs = ap length c.in_ok-seats.ensures ∙ many_seats 0 fs in
    have_played g.F.Face s fs ps (let a = c.in-Ok.ensures.len in omega (arith, a, many))
    (λ i d e low. (let given = (c.in-Ok.ensures.each i d (omega (arith, low, many))).1 in
    let p = slice_index_or ps i d in
    subst (λ f. HasPlayed g.F.Face s f p.face p.kept p.spent) (face_at g.F.Face s fs seats i given.job e c.in_ok-seats.ensures low (given.job_is given.job)) given.call.met))
