use Rattle.std.proofs.Common.{◌≡◌, ℕ, ◌<◌, ◌&&◌, nat_lt}
use Rattle.std.specs.FinSet as set
use Rattle.ioapic_82093aa.specs.Entries.{vector_is}
use Rattle.ioapic_82093aa.proofs.entries.Entries.with.Given as goal

-- the pins so far whose entry has the vector
abbrev pub invariant-loop-number : goal.invariant-loop-number
invariant-loop-number l = (n : ℕ) → n < 24 → set.contains l.pins n ≡ (nat_lt n l.number && vector_is l.self l.vector n)
