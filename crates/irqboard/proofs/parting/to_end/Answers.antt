use Rattle.std.proofs.Common.{◌≡◌, true, ◌∙◌, sym, arith}
use Rattle.irqboard.specs.Parting.{is_end_line}
use Rattle.irqboard.proofs.EndLines.{lines-last}
use Rattle.irqboard.proofs.parting.to_end.Goals as goal

pub returns-then-is_end_line-clause-number : goal.returns-then-is_end_line-clause-number
returns-then-is_end_line-clause-number c =
    let ends : is_end_line c.in-Some.line.now ≡ true = sym c.is_end_line.ensures ∙ c.if-is_end_line.true in
    let one = lines-last c.loop-line.rest.now c.in-Some.line.now c.in-Some.behind.now c.in-Some.ensures.parts ends in
    let all = c.loop-line.invariant.number in
    omega (arith, one, all)
