use Rattle.std.proofs.Common.{[], ◌∷◌, ◌++◌, Ok, Err, sym, ap, ◌∙◌, subst}
use Rattle.irq_base.specs.declared.shape.Part.{Part}
use Rattle.turn_book.specs.Views.{view_of}
use Rattle.part_slots.specs.Commits.{Seen}
use Rattle.part_slots.specs.Slots.{place}
use Rattle.part_attempt.specs.declared.not_now.NotNow.TheVariants as reasons
use Rattle.part_reach.specs.UnderWay.{CameTo}
use Rattle.part_reach.proofs.Begun.{sure_low, won, taken}
use Rattle.part_reach.proofs.beginning.begin.Goals as goal

pub win_turn-requires-clause-there : goal.win_turn-requires-clause-there
win_turn-requires-clause-there c = sure_low c.args.shape.now c.args.caller c.args.call.now c.in-Some.part c.in-Some.ensures c.requires.allowed

pub returns-in-Ok-clause-way : goal.returns-in-Ok-clause-way
returns-in-Ok-clause-way c =
    won c.args.shape.now c.args.caller c.args.call.now c.in-Some.part c.in-Some.ensures (view_of c.args.pen.now.seat) c.requires.begins
    (view_of c.win_turn.new.pen.seat) (Ok c.in-Ok.had) c.win_turn.new.places.items c.in-Ok.ensures.again
    (c.in-Ok.ensures.won ∙ ap (λ l. l ++ place c.in-Some.part ∷ []) c.requires.none)

pub returns-in-Err-clause-busy : goal.returns-in-Err-clause-busy
returns-in-Err-clause-busy c =
    let u : Seen = view_of c.args.pen.now.seat in
    let w : Seen = view_of c.look-in-Err.new.pen.seat in
    subst (λ (p : Part). CameTo c.args.shape.now c.args.caller c.args.call.now u w (Err (reasons.Busy p)) []) (sym c.in-Err.ensures.other)
    (taken c.args.shape.now c.args.caller c.args.call.now c.in-Some.part c.in-Some.ensures u c.requires.begins (view_of c.win_turn.new.pen.seat) w c.look-in-Err.result
    c.in-Err.ensures.list c.in-Err.ensures.place c.in-Err.ensures.turns c.look-in-Err.ensures.again)
