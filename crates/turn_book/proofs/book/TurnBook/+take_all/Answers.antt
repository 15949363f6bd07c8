use Rattle.std.proofs.Common.{◌≡◌, ◌∷◌, true, false, ap, ◌∙◌, subst, arith}
use Rattle.std.specs.Prelude.{IfSome, is_some, nat_eq}
use Rattle.turn_book.specs.Histories.{is_in}
use Rattle.turn_book.specs.Hands.{held_at, held_without}
use Rattle.turn_book.specs.Views.{slots_of}
use Rattle.turn_book.specs.Rule.{workings}
use Rattle.turn_book.specs.Plays.{IsAsHistoryHas}
use Rattle.turn_book.proofs.Handing.{given_back, is_in_first}
use Rattle.turn_book.proofs.book.TurnBook.+take_all.Goals as goal

pub returns-in-Err-clause-back : goal.returns-in-Err-clause-back
returns-in-Err-clause-back g t c =
    let m = g.M.Machine in
    let w = workings m.opens m.steps m.parts m.published m.caller m.is_publication in
    let before = c.args.pen.now.seat in
    let after = c.take.new.pen.seat in
    let p = c.in-Some.part.now in
    let free = c.requires.free p (ap (is_in p) c.in-Some.ensures.cases.0 ∙ is_in_first p c.in-Some.rest.now) in
    ap (λ u. u.held) c.give.ensures.view ∙ ap (held_without p) c.in-Err.ensures.back
    ∙ given_back p before.me.0.held after.me.0.held free (c.take.ensures.held c.in-Got.is) (λ x is.
    (subst (λ o. IfSome o (λ y. (after.me.0.held ≡ record { part = p; value = y } ∷ before.me.0.held) × (slots_of after ≡ (p, y) ∷ slots_of before) × IsAsHistoryHas w before.me.0 p y)) is (c.take.ensures.got c.in-Got.is)).0)
