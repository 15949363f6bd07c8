use Rattle.std.proofs.Common.{ap, sym, ◌∙◌, Ok}
use Rattle.lapic.specs.Registers.{LocalApic}
use Rattle.board_calls.proofs.Numbers.{given_number}
use Rattle.board_calls.specs.Processors.{hears_pair}
use Rattle.board_calls.specs.Own.{pair_heard}
use Rattle.board_calls.proofs.Own.{changed_held, changed_fits}
use Rattle.board_calls.proofs.Asking.{pair_in, pair_missing, answers_pair}
use Rattle.board_calls.proofs.asks.answer_own.Goals as goal

pub returns-then-take_nmi-clause-held : goal.returns-then-take_nmi-clause-held
returns-then-take_nmi-clause-held c = changed_held c.args.parts.now c.args.n c.in-Some.lapic.now c.in-Some.ensures.value c.take_nmi.new.self

pub returns-then-take_nmi-clause-fits : goal.returns-then-take_nmi-clause-fits
returns-then-take_nmi-clause-fits c = changed_fits c.args.parts.now c.args.n c.in-Some.lapic.now c.in-Some.ensures.value c.take_nmi.new.self (ap (λ (a : LocalApic). a.number) c.take_nmi.ensures.after)

pub returns-in-Err-clause-missing : goal.returns-in-Err-clause-missing
returns-in-Err-clause-missing c = pair_missing (hears_pair c.args.n c.take_nmi.new.self) c.args.parts.now c.in-Err.lacks (sym c.pair_gives.ensures ∙ c.in-Err.is)

pub returns-in-Err-clause-held : goal.returns-in-Err-clause-held
returns-in-Err-clause-held c = changed_held c.args.parts.now c.args.n c.in-Some.lapic.now c.in-Some.ensures.value c.take_nmi.new.self

pub returns-in-Err-clause-fits : goal.returns-in-Err-clause-fits
returns-in-Err-clause-fits c = changed_fits c.args.parts.now c.args.n c.in-Some.lapic.now c.in-Some.ensures.value c.take_nmi.new.self (ap (λ (a : LocalApic). a.number) c.take_nmi.ensures.after)

pub returns-in-Ok-true-clause-does : goal.returns-in-Ok-true-clause-does
returns-in-Ok-true-clause-does c = λ ws.
    let p = c.args.parts.now in
    answers_pair p c.args.n c.in-Some.lapic.now ws c.in-Some.ensures.value (sym c.take_nmi.ensures.pending ∙ c.if-take_nmi.false) c.requires.pins c.take_nmi.new.self
    (ap (λ (a : LocalApic). pair_heard (hears_pair c.args.n a) (pair_in p.pic)) (sym c.take_nmi.ensures.after) ∙ sym c.pair_gives.ensures ∙ c.in-Ok-true.is ∙ ap Ok c.in-Ok-true.field-0-test)
    c.take_nmi.ensures.after

pub returns-in-Ok-true-clause-held : goal.returns-in-Ok-true-clause-held
returns-in-Ok-true-clause-held c = changed_held c.args.parts.now c.args.n c.in-Some.lapic.now c.in-Some.ensures.value c.take_nmi.new.self

pub returns-in-Ok-true-clause-fits : goal.returns-in-Ok-true-clause-fits
returns-in-Ok-true-clause-fits c = changed_fits c.args.parts.now c.args.n c.in-Some.lapic.now c.in-Some.ensures.value c.take_nmi.new.self (ap (λ (a : LocalApic). a.number) c.take_nmi.ensures.after)

pub returns-in-Ok-false-clause-held : goal.returns-in-Ok-false-clause-held
returns-in-Ok-false-clause-held c = changed_held c.args.parts.now c.args.n c.in-Some.lapic.now c.in-Some.ensures.value c.give.new.self

pub returns-in-Ok-false-clause-fits : goal.returns-in-Ok-false-clause-fits
returns-in-Ok-false-clause-fits c =
    changed_fits c.args.parts.now c.args.n c.in-Some.lapic.now c.in-Some.ensures.value c.give.new.self
    (ap (λ (a : LocalApic). a.number) c.give.ensures.after ∙ given_number c.take_nmi.new.self c.give.result ∙ ap (λ (a : LocalApic). a.number) c.take_nmi.ensures.after)
