use Rattle.std.proofs.Common.{ap}
use Rattle.part_slots.specs.Commits.{Seen}
use Rattle.part_board.proofs.Learnt.{learnt_at}
use Rattle.part_board.proofs.live.LiveBoard.note.Goals as goal

pub returns-clause-learnt : goal.returns-clause-learnt
returns-clause-learnt c =
    let pass = c.args.pass.now in
    learnt_at pass.shape c.args.self.now.shape pass.caller pass.pen.seat.me.0 c.front.new.pen.seat.me.0 c.split-pen.new.pen.seat.me.0.seen c.requires.pass.shape pass.begins pass.named c.front.ensures.place.0 c.front.ensures.seen c.front.ensures.legal c.front.ensures.own
    (ap (λ (v : Seen). v.seen) c.split-pen.ensures.kept)
