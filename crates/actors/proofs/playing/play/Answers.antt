use Rattle.std.proofs.Common.{◌≡◌, true, Some, sym, ap, ◌∙◌, subst, arith}
use Rattle.std.specs.Prelude.{Ok}
use Rattle.irq_base.specs.Callers.{is_allowed, is_there}
use Rattle.irq_base.specs.Faces.{own_after}
use Rattle.actors.specs.Kept.{placed_in}
use Rattle.script_text.specs.Asks.{caller_at}
use Rattle.actors.specs.Turns.{replies_in}
use Rattle.actors.proofs.Plays.{start, answer, barred, next_at, follows_at, more_left, allowed_there}
use Rattle.actors.proofs.playing.play.Goals as goal

pub loop-call-init : goal.loop-call-init
loop-call-init g c =
    let s = c.args.script.now in
    let f = c.args.seat.face in
    start g.F.Face s f c.none-kept.result c.start-progress.result c.most_calls-left.result c.requires.stops c.none-kept.ensures.entries
    (c.start-progress.ensures (g.F.Face.who f) s.lines) (c.most_calls-left.ensures (g.F.Face.who f))

pub ask-requires : goal.ask-requires
ask-requires g c =
    let s = c.args.script.now in
    let f = c.args.seat.face in
    let now = c.loop-call.face in
    let plays = c.loop-call.invariant in
    record {
      allowed = allowed_there (g.F.Face.who now) c.in-Some.call.now s.shape (g.F.Face.shape now)
          (subst (λ w. is_allowed w c.in-Some.call.now s.shape ≡ true) (sym (plays.caller ∙ c.requires.caller)) c.in-Some.ensures.allowed)
          ((λ i. is_there (plays.caller i) (plays.shape i)) ∙ (ap (λ w. is_there w (g.F.Face.shape f)) (sym c.caller-caller.ensures.who)) ∙ c.caller-caller.ensures.there);
    }

pub returns-in-Err : goal.returns-in-Err
returns-in-Err g c =
    let s = c.args.script.now in
    let f = c.args.seat.face in
    let plays = c.loop-call.invariant in
    let told = c.in-Err.ensures in
    let at = caller_at s.lines c.args.seat.actor in
    let next = next_at (g.F.Face.who f) at s (replies_in plays.answered) c.loop-call.progress (Some c.in-Some.call.now) c.requires.caller c.in-Some.ensures.followed plays.followed in
    barred g.F.Face s f c.loop-call.face c.ask.new.self c.loop-call.kept c.loop-call.progress c.loop-call.left plays
    c.in-Some.call.now c.ask.new.events.items next c.in-Err.spent told.who told.shape told.home told.place told.stops told.own told.left told.barred told.keeps

pub loop-call-preserved : goal.loop-call-preserved
loop-call-preserved g c =
    let s = c.args.script.now in
    let f = c.args.seat.face in
    let plays = c.loop-call.invariant in
    let told = c.in-Ok.ensures in
    let at = caller_at s.lines c.args.seat.actor in
    let next = next_at (g.F.Face.who f) at s (replies_in plays.answered) c.loop-call.progress (Some c.in-Some.call.now) c.requires.caller c.in-Some.ensures.followed plays.followed in
    answer g.F.Face s f c.loop-call.face c.ask.new.self c.loop-call.kept c.keep.new.self c.loop-call.progress c.after.new.self c.loop-call.left plays
    c.caller-caller.result c.in-Some.call.now c.ask.new.events.items c.in-Ok.done next told.who told.shape told.home told.place told.stops told.own told.left told.keeps
    c.caller-caller.ensures.who c.keep.ensures.before
    (λ kept. c.keep.ensures.entry kept ∙ ap (λ events. own_after c.caller-caller.result c.in-Some.call.now events (Ok c.in-Ok.done) (placed_in c.loop-call.kept.entries.items)) c.as_slice.ensures.value)
    (follows_at (g.F.Face.who f) at s c.in-Ok.done.reply c.loop-call.progress c.after.new.self c.requires.caller (λ rs. c.after.ensures.followed rs c.requires.actor))

pub overflow_sub-left : goal.overflow_sub-left
overflow_sub-left g c =
    let s = c.args.script.now in
    let f = c.args.seat.face in
    let plays = c.loop-call.invariant in
    let at = caller_at s.lines c.args.seat.actor in
    let next =
    next_at (g.F.Face.who f) at s (replies_in plays.answered) c.loop-call.progress (Some c.in-Some.call.now) c.requires.caller c.in-Some.ensures.followed plays.followed in
    more_left g.F.Face s f c.loop-call.face c.ask.new.self c.loop-call.kept c.keep.new.self c.loop-call.progress c.after.new.self c.loop-call.left plays
    c.caller-caller.result c.in-Some.call.now c.ask.new.events.items c.in-Ok.done next

pub loop-call-smaller : goal.loop-call-smaller
loop-call-smaller g c =
    let s = c.args.script.now in
    let f = c.args.seat.face in
    let plays = c.loop-call.invariant in
    let at = caller_at s.lines c.args.seat.actor in
    let next =
    next_at (g.F.Face.who f) at s (replies_in plays.answered) c.loop-call.progress (Some c.in-Some.call.now) c.requires.caller c.in-Some.ensures.followed plays.followed in
    (let some = more_left g.F.Face s f c.loop-call.face c.ask.new.self c.loop-call.kept c.keep.new.self c.loop-call.progress c.after.new.self c.loop-call.left plays
    c.caller-caller.result c.in-Some.call.now c.ask.new.events.items c.in-Ok.done next in omega (arith, some))
