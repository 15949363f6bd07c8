use Rattle.std.proofs.Common.{◌≡◌, true, sym, ap, ◌∙◌, arith}
use Rattle.std.specs.Prelude.{Some, is_some}
use Rattle.turn_book.specs.Hands.{held_at, slot_at}
use Rattle.turn_book.specs.Lent.{lent_here}
use Rattle.book_rows.proofs.Values.{may_add, sum_is}
use Rattle.book_rows.proofs.asking.add_once.Goals as goal

pub change-requires-clause-step : goal.change-requires-clause-step
change-requires-clause-step c =
    let k = c.args.counter in
    let pen = c.args.pen.now in
    may_add pen.seat.me.0 c.args.had c.args.caller k c.args.n c.part_of-before.result.now c.requires.holds c.requires.legal (sym c.requires.home ∙ c.part_of-before.ensures.value) c.in-Some.ensures.0 (omega (arith, c.if-had-ge-MOST.false))

pub returns-in_default-clause-home : goal.returns-in_default-clause-home
returns-in_default-clause-home c =
    let value = c.part_of-before.ensures.value in
    lent_here c.args.counter c.part_of-before.result.now c.args.pen.now.seat.me.1 (ap is_some value) ∙ sym value ∙ c.requires.home

pub returns-in-Ok-clause-home : goal.returns-in-Ok-clause-home
returns-in-Ok-clause-home c =
    let k = c.args.counter in
    let pen = c.args.pen.now in
    let before = c.part_of-before.result.now in
    let after = c.in-Some.after in
    let value = c.part_of-before.ensures.value in
    let held : held_at k pen.seat.me.0.held ≡ Some before = sym c.requires.home ∙ value in
    let there : is_some (slot_at k c.change.new.pen.seat.me.1) ≡ true = ap is_some (ap (slot_at k) c.change.ensures.slots ∙ lent_here k before pen.seat.me.1 (ap is_some value)) in
    lent_here k after c.change.new.pen.seat.me.1 there
    ∙ ap (λ n. Some n) c.in-Some.ensures.1
    ∙ sym (sum_is pen.seat.me.0 c.change.new.pen.seat.me.0 c.args.caller k c.args.n before c.requires.holds c.requires.legal c.change.ensures.holds c.change.ensures.legal held (c.change.ensures.held k ∙ ap is_some held) c.in-Ok.ensures.follows)

pub returns-in-Err-clause-home : goal.returns-in-Err-clause-home
returns-in-Err-clause-home c =
    let k = c.args.counter in
    let value = c.part_of-before.ensures.value in
    ap (slot_at k) c.change.ensures.slots ∙ lent_here k c.part_of-before.result.now c.args.pen.now.seat.me.1 (ap is_some value) ∙ sym value ∙ c.requires.home ∙ sym (ap (held_at k) c.in-Err.ensures.lost.0)
