-- The words that were filled are now the table's.
use Rattle.std.proofs.Common.{◌≡◌, ℕ, List, sym, ap, subst, ◌∙◌}
use Rattle.std.proofs.lemmas.List.{with_items_is}
use Rattle.route_table.specs.Standing.{Stands}
use Rattle.route_table.proofs.TableLaws.{table_in-rows}
use Rattle.route_table.proofs.table.Table.replace.Goals as goal

pub returns-in-Ok-clause-table : goal.returns-in-Ok-clause-table
returns-in-Ok-clause-table c =
    let filled : c.swap.new.x.items ≡ c.refill.new.words = ap (λ v. v.items) c.swap.ensures.x_after ∙ with_items_is c.self.inside.spare c.refill.new.words (c.refill.auto.words ∙ c.as_mut_slice.ensures.len) in
    table_in-rows c.swap.new.x.items c.refill.new.pics c.refill.new.ioapics c.args.rows.now
    (subst (λ (xs : List ℕ). Stands xs c.refill.new.pics c.refill.new.ioapics c.args.rows.now) (sym filled) c.in-Ok.ensures.stands)
