use Rattle.std.proofs.Common.{◌≡◌, true, false, refl, sym, ap, ◌∙◌, arith}
use Rattle.std.specs.Prelude.{Some, is_some, nat_eq}
use Rattle.turn_book.specs.Hands.{slot_at}
use Rattle.turn_book.specs.Lent.{slot_lent}
use Rattle.book_rows.proofs.moving.read.Goals as goal

pub returns-clause-slots : goal.returns-clause-slots
returns-clause-slots c q =
    let p = c.args.counter in
    let pen = c.args.pen.now in
    let cs = pen.seat.me.1 in
    let value = c.part_of.ensures.value in
    slot_lent p q c.part_of.result.now cs pen.distinct (ap is_some value) ∙ elim (nat_eq p q) as (λ b. nat_eq p q ≡ b → (elim b [ true ↦ Some c.part_of.result.now | false ↦ slot_at q cs ]) ≡ slot_at q cs) [
      | true ↦ λ t. (let same : p ≡ q = grind arith in sym value ∙ ap (λ n. slot_at n cs) same)
      | false ↦ λ t. refl
    ] refl
