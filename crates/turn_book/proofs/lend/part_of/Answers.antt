use Rattle.std.proofs.Common.{refl, sym, ap, ◌∙◌}
use Rattle.std.proofs.Math.Bool.{Bool-set}
use Rattle.std.proofs.Math.Nat.{ℕ_set}
use Rattle.turn_book.specs.Hands.{slot_at}
use Rattle.turn_book.specs.Lent.{lent_with, lent-distinct, lent-paired, brought-first, brought-keeps, slot_here}
use Rattle.turn_book.proofs.Handing.{in_hand}
use Rattle.turn_book.proofs.lend.part_of.Goals as goal

pub part_brought-requires-clause-first : goal.part_brought-requires-clause-first
part_brought-requires-clause-first g c =
    let pen = c.args.pen.now in
    let cs = pen.seat.me.1 in
    let (x, is) = in_hand pen.seat.me.0.held cs c.args.part pen.paired c.requires.held in
    (x, brought-first c.args.part cs x is)

pub invariant_of-pen-lent : goal.invariant_of-pen-lent
invariant_of-pen-lent g c = λ w.
    let pen = c.args.pen.now in
    let cs = pen.seat.me.1 in
    (pen.live, (lent-distinct c.args.part w cs pen.distinct, (lent-paired c.args.part w pen.seat.me.0.held cs pen.distinct pen.paired, (pen.below, (pen.looks_under, (pen.knows_only, tt))))))

pub returns : goal.returns
returns g c =
    let pen = c.args.pen.now in
    let cs = pen.seat.me.1 in
    let p = c.args.part in (
      (
        refl,
        λ w i. record {
          seat = lent_with pen.seat p w;
          live = Bool-set _ _ (c.pen-1.given w).0 pen.live i;
          distinct = Bool-set _ _ (c.pen-1.given w).1.0 (lent-distinct p w cs pen.distinct) i;
          paired = λ q. Bool-set _ _ ((c.pen-1.given w).1.1.0 q) (lent-paired p w pen.seat.me.0.held cs pen.distinct pen.paired q) i;
          below = λ q h. Bool-set _ _ ((c.pen-1.given w).1.1.1.0 q h) (pen.below q h) i;
          looked = pen.looked;
          known = pen.known;
          looks_under = λ f h. ℕ_set _ _ ((c.pen-1.given w).1.1.1.1.0 f h) (pen.looks_under f h) i;
          knows_only = λ k h. ℕ_set _ _ ((c.pen-1.given w).1.1.1.1.1.0 k h) (pen.knows_only k h) i;
        },
      ),
      record { writes_back = tt; value = sym (brought-keeps p p cs pen.distinct) ∙ ap (slot_at p) c.part_brought.ensures.value ∙ slot_here p c.part_brought.result.now _ },
    )
