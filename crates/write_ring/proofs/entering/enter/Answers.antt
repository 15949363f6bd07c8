use Rattle.std.proofs.Common.{◌∙◌}
use Rattle.write_ring.specs.Asked.{entry_of}
use Rattle.write_ring.proofs.Standing.{leads_on, callers, reaches, not_published, has_entered, may_named, entered_named}
use Rattle.write_ring.proofs.entering.enter.Goals as goal

pub commit-requires-clause-step : goal.commit-requires-clause-step
commit-requires-clause-step g c =
    let v = c.args.pen.now.seat.me.0 in
    let may = may_named v g.N.Entering.entry (entry_of c.args.asked.now) c.requires.named c.requires.entry in
    leads_on v c.args.had c.requires.legal c.requires.holds c.requires.held g.N.Entering.entry c.requires.room may

pub commit-requires-clause-caller : goal.commit-requires-clause-caller
commit-requires-clause-caller g c =
    let v = c.args.pen.now.seat.me.0 in
    let may = may_named v g.N.Entering.entry (entry_of c.args.asked.now) c.requires.named c.requires.entry in
    callers v c.args.had c.requires.legal c.requires.holds c.requires.held g.N.Entering.entry may

pub commit-requires-clause-reach : goal.commit-requires-clause-reach
commit-requires-clause-reach g c = reaches c.args.pen.now.seat.me.0 c.args.had c.requires.legal c.requires.holds c.requires.held g.N.Entering.entry

pub commit-requires-clause-publish : goal.commit-requires-clause-publish
commit-requires-clause-publish g c = not_published g.N.Entering.entry

pub returns-clause-entered : goal.returns-clause-entered
returns-clause-entered g c =
    let v = c.args.pen.now.seat.me.0 in
    let w = c.commit.new.pen.seat.me.0 in
    let o = g.N.Entering.entry in
    let e = entry_of c.args.asked.now in
    let may = may_named v o e c.requires.named c.requires.entry in
    entered_named v w o e c.commit.result c.requires.named
    (has_entered v c.args.had c.requires.legal c.requires.holds c.requires.held w o c.commit.result c.commit.ensures.legal c.commit.ensures.holds (c.commit.ensures.held 0 ∙ c.requires.held) c.requires.room may c.commit.ensures.at c.commit.ensures.entered c.commit.ensures.follows)
