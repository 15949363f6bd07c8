use Rattle.std.proofs.Common.{ℕ, ◌<◌, IfSome, subst, sym}
use Rattle.std.specs.Prelude.{option_map}
use Rattle.std.specs.declared.option.Option.{Option}
use Rattle.board_raise.specs.declared.parts.RegistryPart as registry
use Rattle.board_raise.specs.Fit.{RegistrationsFit}
use Rattle.board_raise.specs.InHand.{registry_of}
use Rattle.board_calls.proofs.Ringing.{rung_below}
use Rattle.board_calls.proofs.ring.rung_by.Goals as goal

pub returns-in-Some-clause-counter : goal.returns-in-Some-clause-counter
returns-in-Some-clause-counter c = λ shape fits.
    let registered = subst (λ (o : Option registry.RegistryPart). IfSome (option_map registry_of o) (RegistrationsFit shape.counters)) c.in-Some.is fits.registrations in
    subst (λ (rung : Option ℕ). IfSome rung (λ n. n < shape.counters)) (sym c.find.ensures.value)
    (rung_below shape.counters c.in-Some.registry.ioevents c.args.space c.args.address c.args.len c.args.value registered.ioevents)
