use Rattle.std.proofs.Common.{◌≡◌, ◌≢◌, [], sym, ap, ◌∙◌, arith}
use Rattle.std.specs.Prelude.{is_some}
use Rattle.turn_book.specs.Hands.{held_at, held_without}
use Rattle.turn_book.proofs.Handing.{bare_without}
use Rattle.turn_book.proofs.Holding.{held-else}
use Rattle.book_rows.proofs.asking.add.Goals as goal

pub returns-clause-bare : goal.returns-clause-bare
returns-clause-bare g c =
    let k = c.args.counter in
    let won = c.win.new.pen.seat.me.0.held in
    let nothing : held_without k won ≡ [] = c.win.ensures.only ∙ ap (held_without k) c.requires.bare in
    ap (λ v. v.held) c.give.ensures.view
    ∙ bare_without c.add_held-at.new.pen.seat.me.0.held k (λ q t.
    let other : k ≢ q = λ e. (let no_way : ⊥ = grind arith in no_way) in
    c.add_held-at.ensures.held q ∙ sym (ap is_some (held-else k q other won)) ∙ ap (λ l. is_some (held_at q l)) nothing)
