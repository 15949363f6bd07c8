use Rattle.std.proofs.Common.{◌≡◌, ◌+◌, ◌*◌, ◌<◌, length, get_or, drop, Some, ap, sym, ◌∙◌, arith}
use Rattle.std.specs.Prelude.{option_and_then}
use Rattle.script_text.specs.Numbers.{hex_from, hex_value}
use Rattle.script_text.proofs.Digits.{hex_fits, hex_bound, hex_from-step}
use Rattle.script_text.proofs.numbers.hex_number.Goals as goal

pub overflow_mul-number : goal.overflow_mul-number
overflow_mul-number c =
    let fits = hex_fits c.loop-digit.digit-index c.loop-digit.number (omega arith) c.loop-digit.invariant.0 in
    omega (arith, fits)

pub overflow_add-number : goal.overflow_add-number
overflow_add-number c =
    let fits = hex_fits c.loop-digit.digit-index c.loop-digit.number (omega arith) c.loop-digit.invariant.0 in
    let digit : c.from.result < 16 = grind (arith, c.in_ok-hex_value.ensures) in
    omega (arith, fits, digit)

pub loop-digit-preserved : goal.loop-digit-preserved
loop-digit-preserved c =
    let digit : c.from.result < 16 = grind (arith, c.in_ok-hex_value.ensures) in
    let digits = c.args.digits.now in
    let i = c.loop-digit.digit-index in
    let below : i < length digits = omega arith in
    let is : hex_value (get_or digits i 0) ≡ Some c.from.result = cc (c.in_ok-hex_value.ensures.value, c.from.ensures) in (
      hex_bound i c.loop-digit.number c.from.result c.loop-digit.invariant.0 digit,
      sym (hex_from-step digits i c.loop-digit.number 0 below ∙ ap (option_and_then (λ v. hex_from (16 * c.loop-digit.number + v) (drop (i + 1) digits))) is)
          ∙ c.loop-digit.invariant.1,
    )
