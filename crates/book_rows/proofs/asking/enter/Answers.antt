use Rattle.std.proofs.Common.{◌≡◌, subst}
use Rattle.std.specs.Prelude.{IfOk, IfSome, Some}
use Rattle.book_rows.specs.declared.machine.Counts.{Counts}
use Rattle.book_rows.specs.Counting.{Counted}
use Rattle.book_rows.proofs.asking.enter.Goals as goal

pub returns-clause-follows : goal.returns-clause-follows
returns-clause-follows g c =
    let v = c.args.pen.now.seat.me.0 in
    let w = c.commit.new.pen.seat.me.0 in
    subst (λ o. IfOk c.commit.result (λ at. IfSome o (λ e. (s t : Counts) → v.now ≡ Some s → w.now ≡ Some t → Counted s e t))) c.requires.named c.commit.ensures.follows
