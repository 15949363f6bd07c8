use Rattle.std.proofs.Common.{◌≡◌, ℕ, ◌+◌, ◌-◌, length}
use Rattle.script_text.specs.Index.{places_in}
use Rattle.script_text.proofs.draft.make_seats.Given as goal

-- the seats so far have what they had, and the new ones have nothing
abbrev pub invariant-seats : goal.invariant-seats
invariant-seats l = (n : ℕ) → places_in l.seats.items n ≡ places_in l.fn.seats.items n

abbrev pub decreases-seats : goal.decreases-seats
decreases-seats l = l.seat + 1 - length l.seats.items
