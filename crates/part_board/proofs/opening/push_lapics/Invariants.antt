use Rattle.std.proofs.Common.{◌≡◌, ◌++◌, length}
use Rattle.part_copies.specs.Gathering.{apic_slots, drained}
use Rattle.part_board.proofs.opening.push_lapics.Given as goal

-- the local APICs of the places before have gone
abbrev pub invariant-loop-n : goal.invariant-loop-n
invariant-loop-n l = (l.slots.items ≡ l.fn.slots.items ++ apic_slots l.n l.fn.row) × (l.row ≡ drained l.n l.fn.row)
