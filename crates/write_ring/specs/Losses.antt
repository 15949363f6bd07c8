-- That no write of a ring is lost (this project's own rule)
use Rattle.std.specs.Prelude.{◌≡◌, List, [], ◌∷◌, ◌++◌}
use Rattle.write_ring.specs.declared.machine.RingEntry.{RingEntry}
use Rattle.write_ring.specs.declared.machine.RingEntry.TheVariants.{Put, Take}
use Rattle.write_ring.specs.declared.write.RingPut.TheVariants.{Placed, Full}
use Rattle.write_ring.specs.declared.write.RingWrite.{RingWrite}
use Rattle.write_ring.specs.Queue.{queue_after}
use Rattle.write_ring.specs.Ring.{IsRingHistory}

-- the writes whose puts were answered Placed, in the order of these puts
abbrev pub placed_in : List RingEntry → List RingWrite
placed_in [] = []
placed_in (Put pass w (Placed at) ∷ es) = w ∷ placed_in es
placed_in (Put pass w Full ∷ es) = placed_in es
placed_in (Take pass ws ∷ es) = placed_in es

-- the writes that takes gave, in the order in which they were given
abbrev pub taken_in : List RingEntry → List RingWrite
taken_in [] = []
taken_in (Put pass w reply ∷ es) = taken_in es
taken_in (Take pass ws ∷ es) = ws ++ taken_in es

-- the writes placed are the writes taken, and then those that stand
abbrev pub LosesNone : Type 0
LosesNone = (es : List RingEntry) → IsRingHistory es → placed_in es ≡ taken_in es ++ (queue_after es).writes.items
