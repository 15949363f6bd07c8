use Rattle.std.proofs.Common.{length}
use Rattle.turn_copies.proofs.copies.+copy_each.Given as goal

abbrev pub decreases-copy_each : goal.decreases-copy_each
decreases-copy_each g l = length l.parts.now
