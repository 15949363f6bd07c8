use Rattle.std.proofs.Common.{◌∙◌, subst}
use Rattle.board_step.specs.History.{Legal}
use Rattle.part_board.proofs.Learnt.{legal_of}
use Rattle.part_board.proofs.desk.Desk.learn.Goals as goal

pub returns-clause-legal : goal.returns-clause-legal
returns-clause-legal c =
    subst (λ s. Legal s c.join.new.pen.seat.me.0.seen) c.requires.desk.shape (legal_of c.args.self.now.shape c.join.new.pen.seat.me.0 (c.join.ensures.place.0 ∙ c.args.self.now.begins) c.join.ensures.legal)
