use Rattle.std.proofs.Common.{◌≡◌, ◌<◌, length, arith, subst, sym, ap, ◌∙◌}
use Rattle.std.specs.Prelude.{Some}
use mathlib.Core.Option.{none}
use Rattle.atomic_table.specs.Table.{step, Allows}
use Rattle.turn_book.specs.Histories.{last_of}
use Rattle.turn_book.specs.Banks.{place, is_odd}
use Rattle.turn_book.specs.Rule.{IsKept, workings}
use Rattle.turn_book.specs.Plays.{ReadsWord}
use Rattle.turn_book.proofs.Lists.{has}
use Rattle.turn_book.proofs.Reading.{read_allows}
use Rattle.turn_book.proofs.book.TurnBook.word_named.Goals as goal

pub load-requires : goal.load-requires
load-requires g c =
    let book = c.args.self.now in
    let shared = book.table.shared in
    let m = g.M.Machine in
    let w = workings m.opens m.steps m.parts m.published m.caller m.is_publication in
    let opening = m.opening shared.key.parts.value.items in
    let size = length shared.key.words.value.items in
    let n = shared.table_id.slots in
    let pen = c.args.pen.now in
    let i = c.args.index in
    let p = c.place-place.result in
    let (had, last) = has (last_of pen.seat.me.0.looks) c.requires.looked in
    let at : place n size (is_odd pen.looked) i ≡ p = ap (λ k. place n k (is_odd pen.looked) i) (sym book.bank_width) ∙ sym c.place-place.ensures.place in
    let low : i < size = (let inside = c.requires.index in let same = book.bank_width in omega arith) in (
      c.requires.book,
      c.place-place.ensures.within,
      subst (λ o. Allows (IsKept w opening size) n pen.seat.id pen.seat.me p (λ k. k) (ReadsWord o (step n p 0 0 none) pen.seat.me)) (sym c.requires.named)
          (subst (λ k. Allows (IsKept w opening size) n pen.seat.id pen.seat.me k (λ x. x) (ReadsWord (Some i) (step n p 0 0 none) pen.seat.me)) at
          (read_allows w opening size n pen.seat.id i pen.looked pen.seat.me (step n p 0 0 none) had pen.live last (pen.looks_under had last) low)),
    )
