use Rattle.std.proofs.Common.{◌≡◌, arith, subst, sym, length}
use Rattle.std.specs.Prelude.{Some, false}
use Rattle.atomic_table.specs.Table.{Splits}
use Rattle.turn_book.specs.Histories.{is_in}
use Rattle.turn_book.specs.Rule.{IsKept, workings}
use Rattle.turn_book.specs.Views.{made_view, split_view}
use Rattle.turn_book.proofs.Lists.{some_is}
use Rattle.turn_book.proofs.Splitting.{split_allows}
use Rattle.turn_book.proofs.book.TurnBook.split_for.Goals as goal

pub split_seat-seat-requires : goal.split_seat-seat-requires
split_seat-seat-requires g c =
    let wide = c.args.self.now.wide in
    let m = g.M.Machine in
    let w = workings m.opens m.steps m.parts m.published m.caller m.is_publication in
    let opening = m.opening c.args.self.now.table.shared.key.parts.value.items in
    let size = length c.args.self.now.table.shared.key.words.value.items in
    let pen = c.args.pen.now in
    let v = pen.seat.me.0 in (
      c.requires.book,
      omega arith,
      subst (λ o. Splits (IsKept w opening size) pen.seat.id v (made_view o v) (split_view o v)) (sym c.requires.named)
          (split_allows w opening size pen.seat.id v (Some c.args.caller) pen.live (λ d is. (c.requires.desk, subst (λ n. is_in n v.made ≡ false) (some_is c.args.caller d is) c.requires.fresh))),
    )
