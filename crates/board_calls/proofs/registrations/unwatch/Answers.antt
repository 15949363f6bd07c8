use Rattle.std.proofs.Common.{sym, subst, not}
use Rattle.ack_notifiers.specs.Rows.{is_named}
use Rattle.board_raise.specs.declared.parts.RegistryPart as registry
use Rattle.board_raise.specs.Fit.{RegistrationsFit}
use Rattle.board_raise.specs.InHand.{registry_of}
use Rattle.board_calls.proofs.Fitting.{fits_with_registry, fewer_watches}
use Rattle.board_calls.proofs.registrations.unwatch.Goals as goal

pub returns-in-Ok-clause-fits : goal.returns-in-Ok-clause-fits
returns-in-Ok-clause-fits c = λ shape.
    fits_with_registry shape c.args.parts.now c.in-Some.registry c.unwatch_in.new.registry c.in-Some.is
    (λ fit. subst (λ (r : registry.RegistryPart). RegistrationsFit shape.counters (registry_of r)) (sym c.in-Ok.ensures.ok) (fewer_watches shape.counters c.in-Some.registry fit (λ row. not (is_named c.args.counter c.args.gsi row))))
