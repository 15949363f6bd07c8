use Rattle.std.proofs.Common.{sym, ap, ◌∙◌}
use Rattle.part_reach.specs.Sure.{sure_part}
use Rattle.part_reach.proofs.Sure.{sure_is_reached}
use Rattle.part_reach.proofs.by_table.sure.Goals as goal

pub returns-in-None : goal.returns-in-None
returns-in-None c =
    sure_is_reached c.args.shape.now c.args.caller c.args.call.now c.requires.limits.cpus (sym c.refused_by_range.ensures ∙ c.in-None.is) c.sure_part.result
    (c.sure_part.ensures ∙ ap (λ n. sure_part c.args.shape.now n c.args.call.now) c.number_of.ensures)
