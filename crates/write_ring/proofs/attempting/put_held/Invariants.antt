use Rattle.std.proofs.Common.{Some}
use Rattle.write_ring.specs.Asked.{entry_of}
use Rattle.write_ring.proofs.attempting.put_held.Given as goal

abbrev pub ghosts-enter : goal.ghosts-enter
ghosts-enter a = record { entry = Some (entry_of a.asked.now) }
