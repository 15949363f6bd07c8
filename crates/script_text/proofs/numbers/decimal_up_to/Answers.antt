use Rattle.std.proofs.Common.{◌≡◌, ◌+◌, ◌*◌, ◌<◌, get_or, drop, Some, ap, sym, ◌∙◌, arith}
use Rattle.std.specs.Prelude.{option_and_then}
use Rattle.script_text.specs.Numbers.{decimal_from, decimal_value, between}
use Rattle.script_text.proofs.Digits.{decimal_from-step, too_great}
use Rattle.script_text.proofs.numbers.decimal_up_to.Goals as goal

pub returns-then-larger-from-clause-value : goal.returns-then-larger-from-clause-value
returns-then-larger-from-clause-value c =
    let digits = c.args.digits.now in
    let i = c.loop-digit.digit-index in
    let n = c.loop-digit.number in
    let v = c.in-Some.value in
    let r = between c.args.least c.args.most in
    let is : decimal_value (get_or digits i 0) ≡ Some v = sym c.in-Some.ensures.value in
    let above : c.args.most < 10 * n + v = omega (arith, c.if-larger-from.true, c.from-in-loop-digit-2.ensures, c.from.ensures, c.from-in-loop-digit.ensures) in
    sym (sym c.loop-digit.invariant.1
    ∙ ap r (decimal_from-step digits i n 0 (omega arith) ∙ ap (option_and_then (λ v. decimal_from (10 * n + v) (drop (i + 1) digits))) is)
    ∙ too_great c.args.least c.args.most (10 * n + v) (drop (i + 1) digits) above)
