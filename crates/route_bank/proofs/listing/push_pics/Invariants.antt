use Rattle.std.proofs.Common.{◌≡◌, ◌++◌}
use Rattle.route_bank.specs.Lists.{pic_words}
use Rattle.route_bank.proofs.listing.push_pics.Given as goal

abbrev pub invariant-loop-number : goal.invariant-loop-number
invariant-loop-number l = l.words.items ≡ l.fn.words.items ++ pic_words l.table l.number
