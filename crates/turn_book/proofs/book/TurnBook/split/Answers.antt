use Rattle.std.proofs.Common.{arith, length}
use Rattle.std.specs.Prelude.{None}
use Rattle.turn_book.specs.Rule.{workings}
use Rattle.turn_book.proofs.Lists.{none_not}
use Rattle.turn_book.proofs.Splitting.{split_allows}
use Rattle.turn_book.proofs.book.TurnBook.split.Goals as goal

pub split_seat-seat-requires : goal.split_seat-seat-requires
split_seat-seat-requires g c =
    let wide = c.args.self.now.wide in
    let m = g.M.Machine in
    let pen = c.args.pen.now in
    (c.requires.book, omega arith, split_allows (workings m.opens m.steps m.parts m.published m.caller m.is_publication) (m.opening c.args.self.now.table.shared.key.parts.value.items) (length c.args.self.now.table.shared.key.words.value.items) pen.seat.id pen.seat.me.0 None pen.live (λ d is. absurd (none_not d is)))
