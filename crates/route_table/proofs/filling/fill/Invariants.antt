-- Words and pins stand for the rows so far, none of which is refused.
use Rattle.std.proofs.Common.{◌≡◌, [], take, drop}
use Rattle.irq_base.specs.Refusals.{first_of}
use Rattle.route_table.specs.Rows.{reasons_after}
use Rattle.route_table.specs.Standing.{Stands}
use Rattle.route_table.proofs.filling.fill.Given as goal

abbrev pub invariant-loop-k : goal.invariant-loop-k
invariant-loop-k l = record {
  stands : Stands l.words l.pics l.ioapics (take l.k l.rows);
  reasons : first_of (reasons_after [] l.rows) ≡ first_of (reasons_after (take l.k l.rows) (drop l.k l.rows));
}
