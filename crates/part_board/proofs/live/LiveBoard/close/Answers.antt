use Rattle.std.proofs.Common.{◌≡◌, false, subst}
use Rattle.irq_base.specs.declared.call.Caller.{Caller}
use Rattle.part_board.specs.Closing.{is_missing}
use Rattle.part_board.proofs.Joins.{all_ended, closed_are}
use Rattle.part_board.proofs.live.LiveBoard.close.Goals as goal

pub end-requires-clause-all : goal.end-requires-clause-all
end-requires-clause-all c =
    let none = subst (λ l. (d : Caller) → is_missing c.args.desk l d ≡ false) c.as_slice.ensures.value c.in_default.ensures in
    all_ended c.args.desk c.args.passes.items c.join_all.new.desk.pen.seat.me.0 none c.join_all.ensures.joined

pub returns-clause-closed : goal.returns-clause-closed
returns-clause-closed c =
    let none = subst (λ l. (d : Caller) → is_missing c.args.desk l d ≡ false) c.as_slice.ensures.value c.in_default.ensures in
    closed_are c.args.self.shape c.args.desk c.args.passes.items c.join_all.new.desk.pen.seat.me.0 c.end.result none c.join_all.ensures.joined c.end.ensures
