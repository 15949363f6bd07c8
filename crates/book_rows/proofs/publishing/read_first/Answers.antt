use Rattle.std.proofs.Common.{◌≡◌, ap, subst}
use Rattle.std.specs.Prelude.{IfSome}
use Rattle.turn_book.specs.Views.{noted_view}
use Rattle.book_rows.proofs.publishing.read_first.Goals as goal

pub returns-clause-noted : goal.returns-clause-noted
returns-clause-noted c =
    let v = c.front-had.new.pen.seat.me.0 in
    let w = c.word-first.new.pen.seat.me.0 in
    let noted = subst (λ o. IfSome o (λ had. w ≡ noted_view 0 c.word-first.result had.generation v)) c.front-had.ensures.last_look c.word-first.ensures.noted in
    (v.notes, ap (λ u. u.notes) noted)
