use Rattle.std.proofs.Common.{◌≡◌, ap, sym, ◌∙◌, arith}
use Rattle.script_text.specs.Numbers.{hex_places}
use Rattle.script_text.proofs.Digits.{hex_places-none}
use Rattle.script_text.proofs.numbers.hex_places.Goals as goal

pub returns-clause-places : goal.returns-clause-places
returns-clause-places c =
    let none : c.loop-k.k ≡ 0 = omega arith in
    sym (hex_places-none c.args.value) ∙ ap (λ k. hex_places k c.args.value) (sym none) ∙ c.loop-k.invariant
