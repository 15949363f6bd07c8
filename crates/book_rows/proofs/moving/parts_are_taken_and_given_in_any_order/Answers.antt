use Rattle.std.proofs.Common.{refl, sym, ap, ◌∙◌, arith}
use Rattle.turn_book.specs.Hands.{held_at}
use Rattle.turn_book.proofs.Holding.{held-else}
use Rattle.book_rows.proofs.moving.parts_are_taken_and_given_in_any_order.Goals as goal

pub give-requires-2-clause-home : goal.give-requires-2-clause-home
give-requires-2-clause-home g c =
    c.give.ensures.slots 0 refl
    ∙ c.move_once-back.ensures.home_to
    ∙ sym (held-else 1 0 (λ e. omega arith) c.move_once-back.new.pen.seat.me.0.held)
    ∙ sym (ap (λ v. held_at 0 v.held) c.give.ensures.view)
