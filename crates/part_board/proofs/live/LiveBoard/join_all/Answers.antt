use Rattle.std.proofs.Common.{All, ◌∷◌, length, sym, ap, ◌∙◌, subst, arith}
use Rattle.std.proofs.lemmas.List.Elements.{All-head, All-tail}
use Rattle.std.specs.Vec.Iter.{into_iter_items}
use Rattle.turn_book.specs.Views.{with_end}
use Rattle.turn_book.proofs.Lists.{length_zero}
use Rattle.part_slots.specs.Commits.{Seen}
use Rattle.part_slots.specs.Running.{caller_of}
use Rattle.part_board.specs.declared.pass.Pass.{Pass}
use Rattle.part_board.specs.Joining.{JoinsAll}
use Rattle.part_board.specs.Seen.{IsPassOf}
use Rattle.part_board.proofs.Joins.{joins_none, joins_more}
use Rattle.part_board.proofs.live.LiveBoard.join_all.Goals as goal

pub join-requires-clause-books : goal.join-requires-clause-books
join-requires-clause-books c =
    let live = c.args.self.now in
    let rest = into_iter_items c.next.new.self in
    let each = subst (λ l. All (IsPassOf live) l) c.in-Some.ensures.items c.loop-pass.invariant.1 in
    (c.loop-pass.invariant.0.book, (All-head (IsPassOf live) c.in-Some.pass rest each).book)

pub loop-pass-preserved-in-Some : goal.loop-pass-preserved-in-Some
loop-pass-preserved-in-Some c =
    let live = c.args.self.now in
    let pass = c.in-Some.pass in
    let rest = into_iter_items c.next.new.self in
    let each = subst (λ l. All (IsPassOf live) l) c.in-Some.ensures.items c.loop-pass.invariant.1 in
    let v : Seen = c.loop-pass.desk.pen.seat.me.0 in
    let w : Seen = c.join.new.pen.seat.me.0 in
    let ended = c.join.ensures.list ∙ ap (λ o. with_end caller_of o pass.pen.seat.me.0.seen v.ended) pass.named in (
      record { book = c.join.ensures.book ∙ c.loop-pass.invariant.0.book; shape = c.loop-pass.invariant.0.shape },
      All-tail (IsPassOf live) pass rest each,
      (let many = ap length c.in-Some.ensures.items in let here = c.loop-pass.invariant.2 in let len = c.in-Some.ensures.len in omega (arith, many, here, len)),
      λ u joins. c.loop-pass.invariant.3 u (subst (λ l. JoinsAll v l u) (sym c.in-Some.ensures.items) (joins_more v w u pass rest c.join.ensures.seen c.join.ensures.learnt ended c.join.ensures.place.3 joins)),
    )

pub loop-pass-preserved : goal.loop-pass-preserved
loop-pass-preserved c =
    let live = c.args.self.now in
    let pass = c.in-Some.pass in
    let rest = into_iter_items c.next.new.self in
    let each = subst (λ l. All (IsPassOf live) l) c.in-Some.ensures.items c.loop-pass.invariant.1 in
    let v : Seen = c.loop-pass.desk.pen.seat.me.0 in
    let w : Seen = c.join.new.pen.seat.me.0 in
    let ended = c.join.ensures.list ∙ ap (λ o. with_end caller_of o pass.pen.seat.me.0.seen v.ended) pass.named in (
      record { book = c.join.ensures.book ∙ c.loop-pass.invariant.0.book; shape = c.loop-pass.invariant.0.shape },
      All-tail (IsPassOf live) pass rest each,
      (let many = ap length c.in-Some.ensures.items in let here = c.loop-pass.invariant.2 in let len = c.in-Some.ensures.len in omega (arith, many, here, len)),
      λ u joins. c.loop-pass.invariant.3 u (subst (λ l. JoinsAll v l u) (sym c.in-Some.ensures.items) (joins_more v w u pass rest c.join.ensures.seen c.join.ensures.learnt ended c.join.ensures.place.3 joins)),
    )

pub returns-clause-joined : goal.returns-clause-joined
returns-clause-joined c =
    let v : Seen = c.loop-pass.desk.pen.seat.me.0 in
    let none = length_zero (into_iter_items c.loop-pass.rest) (c.loop-pass.invariant.2 ∙ c.in_default.ensures.cases.0) in
    let joins = c.loop-pass.invariant.3 v (subst (λ l. JoinsAll v l v) (sym none) (joins_none v)) in
    subst (λ l. JoinsAll c.args.desk.now.pen.seat.me.0 l v) c.into_iter-rest.ensures.rest joins
