use Rattle.std.proofs.Common.{◌≡◌, ◌++◌}
use Rattle.route_bank.specs.Lists.{ioapic_words}
use Rattle.route_bank.proofs.listing.push_ioapics.Given as goal

abbrev pub invariant-loop-number : goal.invariant-loop-number
invariant-loop-number l = l.words.items ≡ l.fn.words.items ++ ioapic_words l.table l.number
