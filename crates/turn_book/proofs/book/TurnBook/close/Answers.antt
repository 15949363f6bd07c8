use Rattle.std.proofs.Common.{subst, sym, ap, ◌∙◌, length}
use Rattle.std.specs.Mem.Slots.{slots_items}
use Rattle.turn_book.specs.Fronts.{front_of}
use Rattle.turn_book.specs.Rule.{workings}
use Rattle.turn_book.specs.Ending.{EndsRight}
use Rattle.turn_book.proofs.Lists.{first_word}
use Rattle.turn_book.proofs.Closing.{finals}
use Rattle.turn_book.proofs.book.TurnBook.close.Goals as goal

pub returns : goal.returns
returns g c =
    let m = g.M.Machine in
    let w = workings m.opens m.steps m.parts m.published m.caller m.is_publication in
    let key = c.args.self.table.shared.key in
    let opening = m.opening key.parts.value.items in
    let ws = slots_items c.close_with-closed.result.words in
    let xs = slots_items c.close_with-closed.result.slots in
    let seat = c.args.pen.seat in
    let n = c.word-word.result in
    record {
      ends = subst (λ l. EndsRight w opening seat.me.0 l c.of_word.result) (sym c.unload.ensures.items)
          (subst (λ f. EndsRight w opening seat.me.0 xs f) (ap front_of (first_word ws n c.word-word.ensures) ∙ sym c.of_word.ensures)
          (finals w opening (length key.words.value.items) m.bounded seat.id seat.me.0 c.args.pen.live c.requires.desk c.requires.all ws xs c.close_with-closed.ensures.values.2));
    }
