use Rattle.std.proofs.Common.{sym, ap, ◌∙◌, is_some}
use Rattle.std.specs.Prelude.{Some, option_map}
use Rattle.turn_book.specs.Lent.{lent_here}
use Rattle.write_ring.specs.declared.queue.RingQueue.{RingQueue}
use Rattle.write_ring.specs.Queue.{queue_taken}
use Rattle.write_ring.proofs.handling.clear_in_hand.Goals as goal

pub returns-clause-slot : goal.returns-clause-slot
returns-clause-slot c =
    let value = c.part_of.ensures.value in
    lent_here 0 c.clear.new.self c.args.pen.now.seat.me.1 (ap is_some value) ∙ ap (λ (q : RingQueue). Some q) c.clear.ensures ∙ sym (ap (option_map queue_taken) value)
