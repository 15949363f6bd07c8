-- What a pass, a note and a desk of a ring know (this project's own rule). What each has seen is the list of its seat's view, which
-- the book maintains
use Rattle.std.specs.Prelude.{◌≡◌, ℕ, ◌^◌, List, [], ◌∷◌, ◌++◌, ◌⊎◌, length}
use Rattle.turn_book.specs.declared.view.Ended.{Ended}
use Rattle.turn_book.specs.declared.view.Miss.{Miss}
use Rattle.turn_book.specs.declared.view.View.{View}
use Rattle.turn_book.specs.Histories.{IsPrefix, entries_of}
use Rattle.turn_book.specs.Views.{view_of}
use Rattle.write_ring.specs.declared.desk.RingDesk.{RingDesk}
use Rattle.write_ring.specs.declared.machine.RingEntry.{RingEntry}
use Rattle.write_ring.specs.declared.machine.RingState.{RingState}
use Rattle.write_ring.specs.declared.note.RingNote.{RingNote}
use Rattle.write_ring.specs.declared.pass.RingPass.{RingPass}
use Rattle.write_ring.specs.declared.queue.RingQueue.{RingQueue}
use Rattle.write_ring.specs.declared.ring.WriteRing.{WriteRing}
use Rattle.write_ring.specs.declared.stop.RingSpent.{RingSpent}
use Rattle.write_ring.specs.declared.stop.RingStop.{RingStop}
use Rattle.write_ring.specs.declared.stop.RingStop.TheVariants.{Busy, Spent}
use Rattle.write_ring.specs.Queue.{queue_after, Answers}
use Rattle.write_ring.specs.Ring.{IsRingHistory, pass_of}

-- what a seat at the ring's book knows
abbrev pub Seen : Type 0
Seen = View RingState RingEntry RingQueue

-- ---- what each has seen

abbrev pub pass_view : RingPass → Seen
pass_view pass = view_of pass.pen.seat

abbrev pub pass_seen : RingPass → List RingEntry
pass_seen pass = (view_of pass.pen.seat).seen

abbrev pub note_seen : RingNote → List RingEntry
note_seen note = (view_of note.pen.seat).seen

abbrev pub desk_seen : RingDesk → List RingEntry
desk_seen desk = (view_of desk.pen.seat).seen

-- ---- of one ring

abbrev pub IsPassOf : WriteRing → RingPass → Type 0
IsPassOf ring pass = pass.pen.seat.table_id ≡ ring.book.table.shared.table_id

abbrev pub IsNoteOf : WriteRing → RingNote → Type 0
IsNoteOf ring note = note.pen.seat.table_id ≡ ring.book.table.shared.table_id

abbrev pub IsDeskOf : WriteRing → RingDesk → Type 0
IsDeskOf ring desk = desk.pen.seat.table_id ≡ ring.book.table.shared.table_id

-- ---- entries of one pass

-- the entries of the pass with that number, in their order
abbrev pub entries_by : ℕ → List RingEntry → List RingEntry
entries_by pass es = entries_of pass_of pass es

-- The entry stands last, behind a list that begins with what was seen before and has of its pass no other entries; and it has the
-- answer of the queue that this list leaves
pub record IsEntered (e : RingEntry) (before now : List RingEntry) : Type 0 where
  pub others : List RingEntry
  pub seen : IsPrefix before others
  pub own : entries_by (pass_of e) others ≡ entries_by (pass_of e) before
  pub entered : now ≡ others ++ e ∷ []
  pub answers : Answers e (queue_after others)

-- the list has as many entries as a history can have, and that number is told
abbrev pub IsSpent : RingSpent → List RingEntry → Type 0
IsSpent spent now = (length now ≡ 2 ^ 40) × (spent.at ≡ 2 ^ 40)

-- an attempt gave way: it found the turn of the queue, which is part 0, taken, or it lost its exchange of the front
abbrev pub GaveWay : Seen → Seen → Type 0
GaveWay v w = (w.found ≡ v.found ++ 0 ∷ []) ⊎ ((m : Miss) × (w.misses ≡ v.misses ++ m ∷ []))

-- why an attempt was not answered: it gave way, or the list has as many entries as a history can have
abbrev pub IsStopped : RingStop → Seen → Seen → Type 0
IsStopped Busy v w = GaveWay v w
IsStopped (Spent spent) v w = IsSpent spent w.seen

-- the entries with which a pass ended
abbrev pub end_of : RingPass → Ended RingEntry
end_of pass = record { caller = pass.number; entries = entries_by pass.number (pass_seen pass) }
