-- The entry of a call, with its answer
use Rattle.write_ring.specs.declared.asked.Asked.{Asked}
use Rattle.write_ring.specs.declared.asked.Asked.TheVariants as asked
use Rattle.write_ring.specs.declared.machine.RingEntry.{RingEntry}
use Rattle.write_ring.specs.declared.machine.RingEntry.TheVariants.{Put, Take}

abbrev pub entry_of : Asked → RingEntry
entry_of (asked.Put pass write reply) = Put pass write.now reply
entry_of (asked.Take pass writes) = Take pass writes.now.items
