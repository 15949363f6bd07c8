use Rattle.std.proofs.Common.{refl}
use Rattle.part_board.proofs.Learnt.{learnt_at}
use Rattle.part_board.proofs.live.LiveBoard.learn.Goals as goal

pub returns-clause-learnt : goal.returns-clause-learnt
returns-clause-learnt c =
    let pass = c.args.pass.now in
    learnt_at pass.shape c.args.self.now.shape pass.caller pass.pen.seat.me.0 c.join.new.pen.seat.me.0 _ c.requires.pass.shape pass.begins pass.named c.join.ensures.place.0 c.join.ensures.seen c.join.ensures.legal c.join.ensures.own refl
