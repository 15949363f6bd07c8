use Rattle.std.proofs.Common.{◌≡◌, ◌≤◌, true}
use Rattle.std.specs.List.{list_all}
use Rattle.board_raise.specs.OnRow.{named_in}
use Rattle.board_raise.specs.RowSteps.{numbers_between, naming_of}
use Rattle.board_raise.proofs.Naming.{is_small}
use Rattle.board_raise.proofs.sending.name_each.Given as goal

abbrev pub invariant-loop-n : goal.invariant-loop-n
invariant-loop-n l = record {
  above : l.fn.reach.first ≤ l.n;
  naming : l.naming ≡ naming_of (named_in l.row (numbers_between l.n l.fn.reach.end) l.message l.from);
  small : list_all is_small (named_in l.row (numbers_between l.n l.fn.reach.end) l.message l.from) ≡ true;
}
