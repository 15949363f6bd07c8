-- The queue in hand, and what an exchange of the front makes of it
use Rattle.std.specs.Prelude.{◌≡◌, ◌<◌, ◌^◌, [], ◌∷◌, ◌++◌, Some}
use Rattle.turn_book.specs.Hands.{held_at}
use Rattle.turn_book.specs.Views.{IsLegal, HoldsRight}
use Rattle.write_ring.specs.declared.machine.RingEntry.{RingEntry}
use Rattle.write_ring.specs.declared.machine.RingState.{RingState}
use Rattle.write_ring.specs.declared.queue.RingQueue.{RingQueue}
use Rattle.write_ring.specs.Queue.{queue_next, queue_after, Answers}
use Rattle.write_ring.specs.Ring.{IsEmptyRing, IsRingStep, pass_of}
use Rattle.write_ring.specs.Seen.{Seen}

-- the view's list is a history of the ring
abbrev pub IsRight : Seen → Type 0
IsRight v = IsLegal IsEmptyRing IsRingStep v

-- what it holds is as that history has it
abbrev pub HoldsQueue : Seen → Type 0
HoldsQueue v = HoldsRight (λ (s : RingState). s.queue ∷ []) v

-- the entry is of the view's caller, and has the answer of the queue in hand
pub record MayEnter (e : RingEntry) (v : Seen) : Type 0 where
  pub caller : v.caller ≡ Some (pass_of e)
  pub answers : (q : RingQueue) → held_at 0 v.held ≡ Some q → Answers e q

-- the entry stands last, with the answer of the queue before it, which was in hand; the queue in hand is the one after it
pub record HasEntered (e : RingEntry) (v w : Seen) : Type 0 where
  pub seen : w.seen ≡ v.seen ++ e ∷ []
  pub answers : Answers e (queue_after v.seen)
  pub count : (q : RingQueue) → held_at 0 v.held ≡ Some q → q.placed < 2 ^ 40
  pub next : (q : RingQueue) → held_at 0 v.held ≡ Some q → held_at 0 w.held ≡ Some (queue_next e q)
