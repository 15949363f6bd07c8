use Rattle.std.proofs.Common.{sym, subst, arith}
use Rattle.std.proofs.lemmas.List.Elements.{AllWithin-more}
use Rattle.std.proofs.lemmas.Option.{get_or_from_slice_get}
use Rattle.transcript.specs.Fitting.{FitsEvent}
use Rattle.transcript.proofs.fitting.events_fit.Goals as goal

pub loop-k-preserved : goal.loop-k-preserved
loop-k-preserved c =
    AllWithin-more FitsEvent c.args.events.now 0 c.loop-k.k c.loop-k.invariant
    (λ d. subst FitsEvent (sym (get_or_from_slice_get c.args.events.now c.loop-k.k c.at.result.now d c.at.ensures)) c.event_fits.ensures)

pub returns : goal.returns
returns c k d below = c.loop-k.invariant k d (omega arith) (omega (arith, below))
