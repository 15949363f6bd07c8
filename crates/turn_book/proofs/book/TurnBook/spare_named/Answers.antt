use Rattle.std.proofs.Common.{◌≡◌, ◌+◌, ◌<◌, ℕ, length, not, true, false, refl, arith, subst, sym, ap, ◌∙◌}
use Rattle.std.specs.Prelude.{Some, IfSome}
use mathlib.Core.Option.{none}
use Rattle.atomic_table.specs.Table.{step, Allows}
use Rattle.turn_book.specs.Banks.{place, is_odd}
use Rattle.turn_book.specs.Rule.{IsKept, workings}
use Rattle.turn_book.specs.Plays.{DraftsWord}
use Rattle.turn_book.proofs.Lists.{has}
use Rattle.turn_book.proofs.Banking.{place-from, place-within}
use Rattle.turn_book.proofs.Drafting.{draft_allows}
use Rattle.turn_book.proofs.book.TurnBook.spare_named.Goals as goal

pub store-requires : goal.store-requires
store-requires g c =
    let book = c.args.self.now in
    let shared = book.table.shared in
    let m = g.M.Machine in
    let w = workings m.opens m.steps m.parts m.published m.caller m.is_publication in
    let opening = m.opening shared.key.parts.value.items in
    let size = length shared.key.words.value.items in
    let n = shared.table_id.slots in
    let pen = c.args.pen.now in
    let i = c.args.index in
    let x = c.args.value in
    let p = c.args.bank.begin + i in
    let (h, knows) = has pen.seat.me.0.knows c.requires.knows in
    let same : pen.seat.me.0.knows ≡ Some pen.known = knows ∙ ap (λ k. Some k) (pen.knows_only h knows) in
    let odd = not (is_odd pen.known) in
    let begins : c.args.bank.begin ≡ place n book.width odd 0 = subst (λ k. IfSome k (λ g. c.args.bank.begin ≡ place n book.width (not (is_odd g)) 0)) same c.requires.bank in
    let here : place n book.width odd i ≡ p = place-from n book.width i odd ∙ ap (λ b. b + i) (sym begins) in
    let at : place n size odd i ≡ p = ap (λ k. place n k odd i) (sym book.bank_width) ∙ here in
    let low : i < size = (let inside = c.requires.index in let wide = book.bank_width in omega arith) in
    let within : p < shared.table_id.words = (let a = place-within n book.width i odd c.requires.index in let b = book.wide in let e = here in omega arith) in (
      c.requires.book,
      within,
      subst (λ o. Allows (IsKept w opening size) n pen.seat.id pen.seat.me p (λ _. x) (λ _. DraftsWord o (step n p x 0 none) pen.seat.me x)) (sym c.requires.named)
          (subst (λ k. Allows (IsKept w opening size) n pen.seat.id pen.seat.me k (λ _. x) (λ _. DraftsWord (Some i) (step n p x 0 none) pen.seat.me x)) at
          (draft_allows w opening size n pen.seat.id i x pen.known pen.seat.me (step n p x 0 none) pen.live same low)),
    )
