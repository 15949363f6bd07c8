use Rattle.std.proofs.Common.{◌≡◌, ◌↔◌, ℕ, Some, List, subst}
use Rattle.reg_table.specs.declared.row.RegRow.{RegRow}
use Rattle.reg_table.specs.Rows.{IsRowOf}
use Rattle.reg_table.proofs.Distinct.{found_exactly}
use Rattle.reg_table.proofs.table.RegTable.find.Goals as goal

pub returns-clause-exact : goal.returns-clause-exact
returns-clause-exact g c =
    subst (λ (rows : List RegRow). (k : ℕ) → (c.first_row.result ≡ Some k) ↔ IsRowOf rows c.args.offset k) c.self.view_is
    (found_exactly c.self.inside.rows c.args.offset c.first_row.result c.self.invariant c.first_row.ensures.first c.first_row.ensures.found)
