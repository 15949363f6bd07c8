use Rattle.std.proofs.Common.{sym, ◌∙◌}
use Rattle.route_table.proofs.Filled.{made_of}
use Rattle.route_table.proofs.table.Table.keeps_the_rules.Goals as goal

-- the rows of the table
pub returns-clause-made : goal.returns-clause-made
returns-clause-made c =
    let made = made_of c.self.inside.words.items c.self.inside.spare.items c.self.inside.pics c.self.inside.ioapics c.self.invariant in
    (made.0, made.1, sym c.self.view_is ∙ made.2)
