use Rattle.std.proofs.Common.{ap, ◌∙◌}
use Rattle.irq_bits.specs.Members.{greatest_vector}
use Rattle.lapic.specs.Registers.{LocalApic}
use Rattle.board_calls.proofs.Numbers.{service_number}
use Rattle.board_calls.proofs.Own.{changed_held, changed_fits}
use Rattle.board_calls.proofs.ends.end_service.Goals as goal

pub returns-in-Some-clause-held : goal.returns-in-Some-clause-held
returns-in-Some-clause-held c = changed_held c.args.parts.now c.args.n c.in-Some.lapic.now c.in-Some.ensures.value c.eoi.new.self

pub returns-in-Some-clause-fits : goal.returns-in-Some-clause-fits
returns-in-Some-clause-fits c =
    changed_fits c.args.parts.now c.args.n c.in-Some.lapic.now c.in-Some.ensures.value c.eoi.new.self
    (ap (λ (a : LocalApic). a.number) c.eoi.ensures.after ∙ service_number c.in-Some.lapic.now (greatest_vector c.in-Some.lapic.now.isr))
