use Rattle.std.proofs.Common.{Some, set, sym, ap, subst, ◌∙◌, rules}
use Rattle.irqfd_set.specs.declared.irqfds.Irqfd.{Irqfd}
use Rattle.irqfd_set.specs.Index.{IsIndexed}
use Rattle.irqfd_set.specs.Rows.{of_trigger}
use Rattle.irqfd_set.proofs.RowLemmas.{indexed-with}
use Rattle.irqfd_set.proofs.irqfds.Irqfds.assign.Goals as goal

-- the row that is added
abbrev row : goal.After-self-1 → Irqfd
row c = record { trigger = c.args.trigger; gsi = c.args.gsi; resample = c.args.resample }

pub invariant_of-self : goal.invariant_of-self
invariant_of-self c = (
  subst (λ rows. IsIndexed rows (set c.self.inside.by_trigger.items c.args.trigger (Some (row c)))) (sym c.in-Ok.ensures.items) (indexed-with c.self.inside.rows.items c.self.inside.by_trigger.items (row c) c.self.invariant.0 c.requires.range (ap (λ rows. of_trigger rows c.args.trigger) c.self.view_is ∙ c.requires.free)),
  search rules,
)
