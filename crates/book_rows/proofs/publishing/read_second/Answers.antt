use Rattle.std.proofs.Common.{◌≡◌, ◌∷◌, sym, ap, ◌∙◌, subst}
use Rattle.std.specs.Prelude.{IfSome}
use Rattle.turn_book.specs.Views.{noted_view}
use Rattle.book_rows.proofs.Numbers.{right_words}
use Rattle.book_rows.proofs.publishing.read_second.Goals as goal

pub returns-then-now-had-clause-right : goal.returns-then-now-had-clause-right
returns-then-now-had-clause-right c =
    let v = c.args.pen.now.seat.me.0 in
    let w = c.word-second.new.pen.seat.me.0 in
    let u = c.front-now.new.pen.seat.me.0 in
    let g = c.args.had.generation in
    let y = c.word-second.result in
    let (rest, newest) = c.requires.noted in
    let noted = subst (λ o. IfSome o (λ had. w ≡ noted_view 1 y had.generation v)) c.requires.last_look c.word-second.ensures.noted in
    let notes = c.front-now.ensures.notes ∙ ap (λ x. x.notes) noted ∙ ap (λ l. record { index = 1; value = y; generation = g } ∷ l) newest in
    right_words u.now g _ c.args.first y u.notes rest (sym c.front-now.ensures.generation ∙ c.if-now-had.true) notes c.front-now.ensures.right
