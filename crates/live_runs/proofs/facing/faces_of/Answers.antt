use Rattle.std.proofs.Common.{◌≡◌, All, length, sym, ap, subst, arith}
use Rattle.std.proofs.lemmas.List.Elements.{All-head, All-tail, All-push}
use Rattle.std.specs.Vec.Iter.{into_iter_items}
use Rattle.live_runs.specs.Made.{IsFresh}
use Rattle.live_runs.proofs.Ways.{moved}
use Rattle.live_runs.proofs.facing.faces_of.Goals as goal

pub of-requires : goal.of-requires
of-requires g c =
    let board = c.args.board.now in
    record { pass = (All-head (IsFresh board) c.in-Some.pass (into_iter_items c.next.new.self) (subst (All (IsFresh board)) c.in-Some.ensures.items c.loop-pass.invariant.2)).of_board }

pub loop-pass-preserved : goal.loop-pass-preserved
loop-pass-preserved g c =
    let rest = into_iter_items c.next.new.self in (
      moved (λ f. f.pass) c.loop-pass.faces.items c.push.new.self.items c.of.result c.in-Some.pass (into_iter_items c.loop-pass.rest) rest c.args.passes.items
          c.in-Ok.ensures.items c.of.ensures.pass c.in-Some.ensures.items c.loop-pass.invariant.0,
      subst (λ fs. All (λ f. f.stops.count ≡ 0) fs) (sym c.in-Ok.ensures.items) (All-push (λ f. f.stops.count ≡ 0) c.loop-pass.faces.items c.of.result c.loop-pass.invariant.1 c.of.ensures.count),
      All-tail (IsFresh c.args.board.now) c.in-Some.pass rest (subst (All (IsFresh c.args.board.now)) c.in-Some.ensures.items c.loop-pass.invariant.2),
      (let many = ap length c.in-Some.ensures.items in let here = c.loop-pass.invariant.3 in let len = c.in-Some.ensures.len in omega (arith, many, here, len)),
    )
