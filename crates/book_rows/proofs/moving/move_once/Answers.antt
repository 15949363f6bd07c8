use Rattle.std.proofs.Common.{◌≡◌, ◌+◌, ◌-◌, false, sym, ap, ◌∙◌, arith, subst}
use Rattle.std.specs.Prelude.{Some, is_some, nat_eq}
use Rattle.turn_book.specs.Hands.{held_at}
use Rattle.book_rows.proofs.Values.{may_move, moved_are, HasCount, HasLegal}
use Rattle.book_rows.proofs.moving.move_once.Goals as goal

pub change-requires-clause-step : goal.change-requires-clause-step
change-requires-clause-step c =
    let from = c.args.from in
    let to = c.args.to in
    let v = c.read-right.new.pen.seat.me.0 in
    let same : v ≡ c.args.pen.now.seat.me.0 = c.read-right.ensures.view ∙ c.read-left.ensures.view in
    let left : held_at from v.held ≡ Some c.read-left.result = ap (λ u. held_at from u.held) same ∙ sym c.requires.home_from ∙ c.read-left.ensures.value in
    let right : held_at to v.held ≡ Some c.read-right.result = ap (λ u. held_at to u.held) same ∙ sym c.requires.home_to ∙ sym (c.read-left.ensures.slots to) ∙ c.read-right.ensures.value in
    may_move v c.args.had c.args.caller from to c.args.n c.read-left.result c.read-right.result (subst HasCount (sym same) c.requires.holds) (subst HasLegal (sym same) c.requires.legal) c.requires.apart left right c.in-Some.ensures.0 c.in-Some-checked_add.ensures.0 (omega (arith, c.if-had-ge-MOST.false))

-- both values once the change was moved
moved : (c : goal.After-write-in-Ok) → (held_at c.args.from c.change.new.pen.seat.me.0.held ≡ Some (c.read-left.result - c.args.n)) × (held_at c.args.to c.change.new.pen.seat.me.0.held ≡ Some (c.read-right.result + c.args.n))
moved c =
    let from = c.args.from in
    let to = c.args.to in
    let v = c.read-right.new.pen.seat.me.0 in
    let same : v ≡ c.args.pen.now.seat.me.0 = c.read-right.ensures.view ∙ c.read-left.ensures.view in
    let left : held_at from v.held ≡ Some c.read-left.result = ap (λ u. held_at from u.held) same ∙ sym c.requires.home_from ∙ c.read-left.ensures.value in
    let right : held_at to v.held ≡ Some c.read-right.result = ap (λ u. held_at to u.held) same ∙ sym c.requires.home_to ∙ sym (c.read-left.ensures.slots to) ∙ c.read-right.ensures.value in
    moved_are v c.change.new.pen.seat.me.0 c.args.caller from to c.args.n c.read-left.result c.read-right.result (subst HasCount (sym same) c.requires.holds) (subst HasLegal (sym same) c.requires.legal) c.change.ensures.holds c.change.ensures.legal left right
    (c.change.ensures.held from ∙ ap is_some left) (c.change.ensures.held to ∙ ap is_some right) c.in-Ok.ensures.follows

pub returns-in-Ok-clause-home_from : goal.returns-in-Ok-clause-home_from
returns-in-Ok-clause-home_from c =
    let from = c.args.from in
    let back : nat_eq c.args.to from ≡ false = (let apart = c.requires.apart in grind arith) in
    c.write-in-Ok.ensures.slots from back ∙ c.write.ensures.value ∙ ap (λ n. Some n) c.in-Some.ensures.1 ∙ sym (moved c).0 ∙ sym (ap (λ u. held_at from u.held) (c.write-in-Ok.ensures.view ∙ c.write.ensures.view))

pub returns-in-Ok-clause-home_to : goal.returns-in-Ok-clause-home_to
returns-in-Ok-clause-home_to c =
    let to = c.args.to in
    c.write-in-Ok.ensures.value ∙ ap (λ n. Some n) c.in-Some-checked_add.ensures.1 ∙ sym (moved c).1 ∙ sym (ap (λ u. held_at to u.held) (c.write-in-Ok.ensures.view ∙ c.write.ensures.view))
