-- No write is lost along a history: what stood, and then what is placed, is what is taken, and then what stands
use Rattle.std.proofs.Common.{◌≡◌, ◌+◌, Bool, true, false, List, [], ◌∷◌, ◌++◌, refl, sym, ap, ◌∙◌, append_assoc}
use Rattle.std.specs.Prelude.{nat_eq, length, if◌then◌else◌}
use Rattle.std.proofs.lemmas.List.{append-nil}
use Rattle.turn_book.specs.Histories.{Runs}
use Rattle.write_ring.specs.declared.machine.RingEntry.{RingEntry}
use Rattle.write_ring.specs.declared.machine.RingEntry.TheVariants.{Put, Take}
use Rattle.write_ring.specs.declared.machine.RingState.{RingState}
use Rattle.write_ring.specs.declared.queue.RingQueue.{RingQueue}
use Rattle.write_ring.specs.declared.write.RingPut.{RingPut}
use Rattle.write_ring.specs.declared.write.RingPut.TheVariants.{Placed, Full}
use Rattle.write_ring.specs.declared.write.RingWrite.{RingWrite}
use Rattle.write_ring.specs.Losses.{placed_in, taken_in, LosesNone}
use Rattle.write_ring.specs.Queue.{reply_of, queue_put}
use Rattle.write_ring.specs.Ring.{empty_ring, IsRingStep}
use Rattle.write_ring.proofs.Standing.{queue_runs}

abbrev standing : RingQueue → List RingWrite
standing q = q.writes.items

-- a put with the queue's answer
by_room : (q : RingQueue) (w : RingWrite) (es : List RingEntry) (b : Bool)
    → standing q ++ placed_in (Put 0 w (if b then Full else Placed q.placed) ∷ es)
    ≡ standing (if b then q else record { writes = record { items = q.writes.items ++ w ∷ [] }; placed = q.placed + 1 }) ++ placed_in es
by_room q w es true = refl
by_room q w es false = sym (append_assoc (standing q) (w ∷ []) (placed_in es))

put_stands : (q : RingQueue) (w : RingWrite) (reply : RingPut) (es : List RingEntry) → reply ≡ reply_of q
    → standing q ++ placed_in (Put 0 w reply ∷ es) ≡ standing (queue_put w q) ++ placed_in es
put_stands q w reply es is =
    ap (λ r. standing q ++ placed_in (Put 0 w r ∷ es)) is ∙ by_room q w es (nat_eq (length q.writes.items) 128)

-- the pass of a put does not count
of_any : (pass : _) (w : RingWrite) (reply : RingPut) (es : List RingEntry) → placed_in (Put pass w reply ∷ es) ≡ placed_in (Put 0 w reply ∷ es)
of_any pass w (Placed at) es = refl
of_any pass w Full es = refl

pub stands_along : (s : RingState) (es : List RingEntry) (t : RingState) → Runs IsRingStep s es t
    → standing s.queue ++ placed_in es ≡ taken_in es ++ standing t.queue
stands_along s [] t runs = append-nil (standing s.queue) ∙ ap (λ (x : RingState). standing x.queue) (sym runs)
stands_along s (Put pass w reply ∷ es) t (m, step, more) =
    ap (λ l. standing s.queue ++ l) (of_any pass w reply es)
    ∙ put_stands s.queue w reply es step.0
    ∙ ap (λ (q : RingQueue). standing q ++ placed_in es) (sym step.1)
    ∙ stands_along m es t more
stands_along s (Take pass ws ∷ es) t (m, step, more) =
    ap (λ l. l ++ placed_in es) (sym step.0)
    ∙ ap (λ l. ws ++ l) (ap (λ (q : RingQueue). standing q ++ placed_in es) (sym step.1) ∙ stands_along m es t more)
    ∙ sym (append_assoc ws (taken_in es) (standing t.queue))

pub loses_none : LosesNone
loses_none es (s, runs) =
    stands_along empty_ring es s runs ∙ ap (λ (q : RingQueue). taken_in es ++ standing q) (queue_runs empty_ring es s runs)
