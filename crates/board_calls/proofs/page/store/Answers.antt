use Rattle.std.proofs.Common.{refl, ap, ◌∙◌}
use Rattle.lapic.specs.Registers.{LocalApic}
use Rattle.board_calls.proofs.Numbers.{store_number}
use Rattle.board_calls.proofs.Own.{unstored_ends, changed_held, changed_fits}
use Rattle.board_calls.proofs.page.store.Goals as goal

pub returns-then-len-ne4-clause-does : goal.returns-then-len-ne4-clause-does
returns-then-len-ne4-clause-does c = λ ws. unstored_ends c.args.parts.now c.args.n c.in-Some.lapic.now c.in-Some.ensures.value c.args.offset c.args.len c.args.value ws c.if-len-ne4.true

pub returns-then-len-ne4-clause-held : goal.returns-then-len-ne4-clause-held
returns-then-len-ne4-clause-held c = changed_held c.args.parts.now c.args.n c.in-Some.lapic.now c.in-Some.ensures.value c.in-Some.lapic.now

pub returns-then-len-ne4-clause-fits : goal.returns-then-len-ne4-clause-fits
returns-then-len-ne4-clause-fits c = changed_fits c.args.parts.now c.args.n c.in-Some.lapic.now c.in-Some.ensures.value c.in-Some.lapic.now refl

pub returns-clause-held : goal.returns-clause-held
returns-clause-held c = changed_held c.args.parts.now c.args.n c.in-Some.lapic.now c.in-Some.ensures.value c.store.new.self

pub returns-clause-fits : goal.returns-clause-fits
returns-clause-fits c =
    changed_fits c.args.parts.now c.args.n c.in-Some.lapic.now c.in-Some.ensures.value c.store.new.self
    (ap (λ (a : LocalApic). a.number) c.store.ensures.after ∙ store_number c.in-Some.lapic.now c.args.offset c.args.value)
