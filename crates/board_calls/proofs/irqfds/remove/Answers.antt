use Rattle.board_calls.proofs.Fitting.{fits_with_registry, removed_fits}
use Rattle.board_calls.proofs.irqfds.remove.Goals as goal

pub returns-in-Some-clause-fits : goal.returns-in-Some-clause-fits
returns-in-Some-clause-fits c = λ shape.
    fits_with_registry shape c.args.parts.now c.in-Some.registry c.remove_from.new.registry c.in-Some.is
    (removed_fits shape.counters c.in-Some.registry c.args.trigger c.args.gsi c.remove_from.new.registry c.remove_from.result c.remove_from.ensures.after)
