use Rattle.std.proofs.Common.{sym, subst, Err}
use Rattle.irq_base.specs.declared.event.Event.{Event}
use Rattle.std.specs.Prelude.{List}
use Rattle.turn_book.specs.Views.{view_of}
use Rattle.part_slots.specs.Commits.{Seen}
use Rattle.part_attempt.specs.declared.not_now.NotNow.TheVariants as reasons
use Rattle.part_reach.specs.UnderWay.{IsUnderWay, CameTo}
use Rattle.part_reach.proofs.Ways.{answered}
use Rattle.part_reach.proofs.attempting.until_answered.Goals as goal

pub returns-in-Ok-ran-clause-came : goal.returns-in-Ok-ran-clause-came
returns-in-Ok-ran-clause-came c =
    let e = c.in-Ok-ran.ensures in
    answered c.args.shape.now c.args.caller c.args.call.now (view_of c.args.pen.now.seat) (view_of c.runs.pen.seat) (view_of c.run-ran.new.pen.seat) c.runs.had c.runs.places.items c.run-ran.new.events.items
    c.runs.invariant.looked.named c.runs.invariant.way e.seen e.legal e.place e.looks e.turns c.in-Ok-ran.answer e.entered e.at e.barred e.unmoved e.lost e.kept e.quiet

pub returns-in-Err-fetch-clause-came : goal.returns-in-Err-fetch-clause-came
returns-in-Err-fetch-clause-came c =
    let u : Seen = view_of c.args.pen.now.seat in
    let way = subst (λ (x : Seen). IsUnderWay c.args.shape.now c.args.caller c.args.call.now u x c.runs.had c.runs.places.items) (sym c.in-Err-ran.ensures.stays) c.runs.invariant.way in
    subst (λ (es : List Event). CameTo c.args.shape.now c.args.caller c.args.call.now u (view_of c.fetch.new.pen.seat) (Err (reasons.Busy c.in-Err-fetch.part)) es) (sym c.in-Err-ran.ensures.untold) (c.in-Err-fetch.ensures.busy u way)

pub returns-in-Err-clause-came : goal.returns-in-Err-clause-came
returns-in-Err-clause-came c =
    subst (λ (es : List Event). CameTo c.args.shape.now c.args.caller c.args.call.now (view_of c.args.pen.now.seat) (view_of c.set_out.new.pen.seat) (Err (reasons.Busy c.in-Err.part)) es) (sym c.clear.ensures) c.in-Err.ensures.busy
