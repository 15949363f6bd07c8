use Rattle.std.proofs.Common.{◌≡◌, ◌++◌}
use Rattle.route_bank.specs.Lists.{trigger_words}
use Rattle.route_bank.proofs.listing.push_triggers.Given as goal

abbrev pub invariant-loop-trigger : goal.invariant-loop-trigger
invariant-loop-trigger l = l.words.items ≡ l.fn.words.items ++ trigger_words l.irqfds l.trigger
