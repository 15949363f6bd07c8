use Rattle.board_step.proofs.Basics.{◌≡◌, true, sym, ◌∙◌, subst, entry_of, is_there, Board, is_reached}
use Rattle.board_step.proofs.Faces.{spent_reached, never_barred, answered_shape, answered_there, answered_left, answered_place, still_reached}
use Rattle.board_step.proofs.on_board.OnBoardFace.ask.Goals as goal

pub returns-in-Ok-clause-shape : goal.returns-in-Ok-clause-shape
returns-in-Ok-clause-shape c =
    let f = c.args.self.now in
    answered_shape f.board.now (entry_of f.caller c.args.call.now c.in-Ok.done.reply c.asked.new.events.items) c.asked.new.board c.in-Ok.ensures.whole.0

pub returns-in-Ok-clause-place : goal.returns-in-Ok-clause-place
returns-in-Ok-clause-place c =
    let f = c.args.self.now in
    answered_place f.board.now (entry_of f.caller c.args.call.now c.in-Ok.done.reply c.asked.new.events.items) c.asked.new.board c.in-Ok.ensures.whole.0 c.in-Ok.done.at c.in-Ok.ensures.at

pub returns-in-Ok-clause-left : goal.returns-in-Ok-clause-left
returns-in-Ok-clause-left c =
    let f = c.args.self.now in
    answered_left f.board.now (entry_of f.caller c.args.call.now c.in-Ok.done.reply c.asked.new.events.items) c.asked.new.board c.in-Ok.ensures.whole.0 c.keeps_sound.ensures.calls

pub returns-in-Err-clause-answers : goal.returns-in-Err-clause-answers
returns-in-Err-clause-answers c = λ left quiet. absurd (never_barred c.args.self.now.board.now c.args.call.now c.in-Err.spent c.in-Err.ensures.spent left quiet)

pub invariant_of-self : goal.invariant_of-self
invariant_of-self c =
    let f = c.args.self.now in
    let b = f.board.now in
    let e = entry_of f.caller c.args.call.now c.in-Ok.done.reply c.asked.new.events.items in
    let step = c.in-Ok.ensures.whole.0 in
    record {
      there = answered_there b e c.asked.new.board step f.caller f.there;
      reached = still_reached b e c.asked.new.board step f.stops.last f.reached;
    }

pub invariant_of-self-in-Err : goal.invariant_of-self-in-Err
invariant_of-self-in-Err c =
    let b = c.args.self.now.board.now in
    let stays : c.asked.new.board ≡ b = c.in-Err.ensures.stays in
    record {
      there = subst (λ (x : Board). is_there c.args.self.now.caller x.shape ≡ true) (sym stays) c.args.self.now.there;
      reached = (λ i. is_reached (stays i) (c.stop.ensures.last i)) ∙ spent_reached b c.args.call.now c.in-Err.spent c.in-Err.ensures.spent;
    }
