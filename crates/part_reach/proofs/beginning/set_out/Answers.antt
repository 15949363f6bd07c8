use Rattle.std.proofs.Common.{◌≡◌, false, sym, subst}
use Rattle.turn_book.specs.Histories.{is_in}
use Rattle.turn_book.specs.Views.{view_of}
use Rattle.part_slots.specs.Commits.{Seen}
use Rattle.part_slots.specs.Slots.{place}
use Rattle.part_reach.specs.Turns.{IsReachedAfter}
use Rattle.part_reach.proofs.Besides.{is_reached}
use Rattle.part_reach.proofs.beginning.set_out.Goals as goal

pub fetch-requires-clause-wants : goal.fetch-requires-clause-wants
fetch-requires-clause-wants c =
    let v : Seen = view_of c.begin.new.pen.seat in
    let looked = c.in-Ok.ensures.looked in (
      subst (λ l. is_in (place c.in-Some.part) l ≡ false) c.as_slice.ensures.value c.in-Some.ensures.free,
      subst (λ (w : Seen). IsReachedAfter c.args.shape.now c.args.caller c.args.call.now w.seen c.in-Some.part) (sym c.reached_beside.ensures.view)
          (is_reached c.args.shape.now v looked.begins looked.legal looked.right c.args.caller c.args.call.now c.in-Some.part c.in-Some.ensures.told),
    )
