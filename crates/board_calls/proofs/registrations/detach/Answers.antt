use Rattle.std.proofs.Common.{sym, subst, not}
use Rattle.ioevent_set.specs.Rows.{is_same}
use Rattle.board_raise.specs.declared.parts.RegistryPart as registry
use Rattle.board_raise.specs.Fit.{RegistrationsFit}
use Rattle.board_raise.specs.InHand.{registry_of}
use Rattle.board_calls.proofs.Fitting.{fits_with_registry, fewer_ioevents}
use Rattle.board_calls.proofs.registrations.detach.Goals as goal

pub returns-in-Ok-clause-fits : goal.returns-in-Ok-clause-fits
returns-in-Ok-clause-fits c = λ shape.
    fits_with_registry shape c.args.parts.now c.in-Some.registry c.detach_in.new.registry c.in-Some.is
    (λ fit. subst (λ (r : registry.RegistryPart). RegistrationsFit shape.counters (registry_of r)) (sym c.in-Ok.ensures.ok) (fewer_ioevents shape.counters c.in-Some.registry fit (λ other. not (is_same c.args.row.now other))))
