use Rattle.std.proofs.Common.{◌≡◌, ◌++◌, length}
use Rattle.entry_copies.proofs.copies.list_of.Given as goal

-- the events so far, and those to come
abbrev pub invariant-events : goal.invariant-events
invariant-events l = l.list ++ l.rest ≡ l.events

abbrev pub decreases-events : goal.decreases-events
decreases-events l = length l.rest
