-- The history of a ring, as a machine of a book
use Rattle.std.specs.Prelude.{◌≡◌, ℕ, ◌+◌, ◌<◌, ◌^◌, Bool, nat_eq, List}
use Rattle.turn_book.specs.Histories.{Runs}
use Rattle.write_ring.specs.declared.machine.RingEntry.{RingEntry}
use Rattle.write_ring.specs.declared.machine.RingEntry.TheVariants.{Put, Take}
use Rattle.write_ring.specs.declared.machine.RingState.{RingState}
use Rattle.write_ring.specs.Queue.{empty_queue, queue_next, Answers}

-- the ring at power-on
abbrev pub empty_ring : RingState
empty_ring = record { queue = empty_queue; entries = 0 }

abbrev pub IsEmptyRing : RingState → Type 0
IsEmptyRing s = s ≡ empty_ring

-- a history has at most 2^40 entries
abbrev pub has_room : RingState → RingEntry → Type 0
has_room s e = s.entries < 2 ^ 40

-- one put or take, with the answer of the queue as it stands
abbrev pub IsRingStep : RingState → RingEntry → RingState → Type 0
IsRingStep s e t = Answers e s.queue × (t.queue ≡ queue_next e s.queue) × (s.entries < 2 ^ 40) × (t.entries ≡ s.entries + 1)

-- the history of a ring: puts and takes from the empty queue, each with the answer of a queue with room for 128 writes
abbrev pub IsRingHistory : List RingEntry → Type 0
IsRingHistory es = (s : RingState) × Runs IsRingStep empty_ring es s

-- the number of the pass that made the entry
abbrev pub pass_of : RingEntry → ℕ
pass_of (Put pass w reply) = pass
pass_of (Take pass ws) = pass

-- each entry reaches the queue, which is part 0
abbrev pub is_queue : ℕ → Bool
is_queue p = nat_eq p 0
