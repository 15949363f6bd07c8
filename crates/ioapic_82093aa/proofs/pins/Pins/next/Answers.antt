use Rattle.std.proofs.Common.{arith}
use Rattle.ioapic_82093aa.proofs.Nexts.{none_left, first_left, none_before, left_fits}
use Rattle.ioapic_82093aa.proofs.pins.Pins.next.Goals as goal

pub returns-then-rest-eq0-clause-none_between : goal.returns-then-rest-eq0-clause-none_between
returns-then-rest-eq0-clause-none_between c pin on low = none_left c.self.inside.word c.args.from pin _ c.self.view_is on low c.if-rest-eq0.true

pub returns-then-pin-clause-none_between : goal.returns-then-pin-clause-none_between
returns-then-pin-clause-none_between c pin on before =
    let within = c.if-pin.true in
    none_before c.self.inside.word c.args.from pin _ c.self.view_is (left_fits _ _ c.self.invariant) (omega (arith, c.if-rest-eq0.false)) on (omega (arith, before, within)) before

pub returns-then-pin-clause-there : goal.returns-then-pin-clause-there
returns-then-pin-clause-there c low = first_left c.self.inside.word c.args.from _ c.self.view_is (left_fits _ _ c.self.invariant) (omega (arith, c.if-rest-eq0.false)) low

pub returns-else-pin-clause-none_between : goal.returns-else-pin-clause-none_between
returns-else-pin-clause-none_between c pin on low =
    let past = c.if-pin.false in
    none_before c.self.inside.word c.args.from pin _ c.self.view_is (left_fits _ _ c.self.invariant) (omega (arith, c.if-rest-eq0.false)) on low (omega (arith, past, low))
