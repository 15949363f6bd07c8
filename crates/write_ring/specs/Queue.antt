-- A queue with room for 128 writes: what it answers, and what puts and takes make of it (this project's own rule)
use Rattle.std.specs.Prelude.{◌≡◌, ◌+◌, List, [], ◌∷◌, ◌++◌, length, nat_eq, if◌then◌else◌}
use Rattle.write_ring.specs.declared.machine.RingEntry.{RingEntry}
use Rattle.write_ring.specs.declared.machine.RingEntry.TheVariants.{Put, Take}
use Rattle.write_ring.specs.declared.queue.RingQueue.{RingQueue}
use Rattle.write_ring.specs.declared.write.RingPut.{RingPut}
use Rattle.write_ring.specs.declared.write.RingPut.TheVariants.{Placed, Full}
use Rattle.write_ring.specs.declared.write.RingWrite.{RingWrite}

-- nothing stands in it, and nothing was ever placed
abbrev pub empty_queue : RingQueue
empty_queue = record { writes = record { items = [] }; placed = 0 }

-- a put is answered Full exactly where 128 writes stand, else Placed at the number of writes placed before
abbrev pub reply_of : RingQueue → RingPut
reply_of q = if nat_eq (length q.writes.items) 128 then Full else Placed q.placed

-- after a put the write stands last, where there was room
abbrev pub queue_put : RingWrite → RingQueue → RingQueue
queue_put w q = if nat_eq (length q.writes.items) 128 then q
    else record { writes = record { items = q.writes.items ++ w ∷ [] }; placed = q.placed + 1 }

-- after a take no write stands
abbrev pub queue_taken : RingQueue → RingQueue
queue_taken q = record q { writes = record { items = [] } }

-- the queue after an entry
abbrev pub queue_next : RingEntry → RingQueue → RingQueue
queue_next (Put pass w reply) q = queue_put w q
queue_next (Take pass ws) q = queue_taken q

-- the queue after a list of entries, from another queue and from the empty one
abbrev pub queue_from : RingQueue → List RingEntry → RingQueue
queue_from q [] = q
queue_from q (e ∷ es) = queue_from (queue_next e q) es

abbrev pub queue_after : List RingEntry → RingQueue
queue_after es = queue_from empty_queue es

-- the entry has the answer of this queue: a put its reply, a take all writes in their order
abbrev pub Answers : RingEntry → RingQueue → Type 0
Answers (Put pass w reply) q = reply ≡ reply_of q
Answers (Take pass ws) q = ws ≡ q.writes.items
