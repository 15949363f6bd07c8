use Rattle.std.proofs.Common.{◌≡◌, ◌+◌, ◌-◌, arith, subst, sym, length}
use mathlib.Core.Option.{none}
use Rattle.atomic_table.specs.Table.{step, Allows}
use Rattle.turn_book.specs.Rule.{IsKept, workings}
use Rattle.turn_book.specs.Plays.{Takes}
use Rattle.turn_book.proofs.Taking.{take_allows}
use Rattle.turn_book.proofs.book.TurnBook.take.Goals as goal

pub swap-old-requires : goal.swap-old-requires
swap-old-requires g c =
    let wide = c.args.self.now.wide in
    let m = g.M.Machine in
    let w = workings m.opens m.steps m.parts m.published m.caller m.is_publication in
    let z = c.args.self.now.table.shared.table_id in
    let opening = m.opening c.args.self.now.table.shared.key.parts.value.items in
    let size = length c.args.self.now.table.shared.key.words.value.items in
    let pen = c.args.pen.now in
    let me = pen.seat.me in
    let p = c.args.part in
    let back : (p + 1) - 1 ≡ p = omega arith in (
      c.requires.book,
      omega (arith, c.requires.part),
      subst (λ q. Allows (IsKept w opening size) z.slots pen.seat.id me (p + 1) (λ _. 1) (Takes w q (step z.slots (p + 1) 1 0 none) me)) (sym back)
          (take_allows w opening size z.slots pen.seat.id me (step z.slots (p + 1) 1 0 none) p pen.live c.requires.caller c.requires.part),
    )
