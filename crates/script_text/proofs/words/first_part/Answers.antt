use Rattle.std.proofs.Common.{sym, ◌∙◌}
use Rattle.script_text.proofs.Cuts.{cut-begins}
use Rattle.script_text.proofs.words.first_part.Goals as goal

pub returns-in-Some-clause-begins : goal.returns-in-Some-clause-begins
returns-in-Some-clause-begins c =
    cut-begins c.args.byte c.args.text.now c.split_at.result.1.now c.in-Some.k (sym c.place_of.ensures.place ∙ c.in-Some.is) c.split_at.ensures.back
