use Rattle.std.proofs.Common.{◌≡◌, ◌++◌}
use Rattle.route_bank.specs.Lists.{gsi_words}
use Rattle.route_bank.proofs.listing.push_gsis.Given as goal

abbrev pub invariant-loop-gsi : goal.invariant-loop-gsi
invariant-loop-gsi l = l.words.items ≡ l.fn.words.items ++ gsi_words l.table l.marks l.gsi
