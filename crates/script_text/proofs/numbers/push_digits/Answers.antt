use Rattle.std.proofs.Common.{◌≡◌, ◌++◌, ap, sym, ◌∙◌, arith}
use Rattle.std.specs.String.{string_bytes}
use Rattle.script_text.specs.Numbers.{hex_digits}
use Rattle.script_text.proofs.Digits.{hex_digits-none}
use Rattle.script_text.proofs.numbers.push_digits.Goals as goal

pub returns : goal.returns
returns c =
    let none : c.loop-k.k ≡ 0 = omega arith in
    sym (hex_digits-none (string_bytes c.loop-k.text) c.args.value)
    ∙ ap (λ k. string_bytes c.loop-k.text ++ hex_digits k c.args.value) (sym none) ∙ c.loop-k.invariant
