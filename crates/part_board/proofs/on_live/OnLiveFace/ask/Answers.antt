use Rattle.std.proofs.Common.{◌≡◌, true, refl, sym, ap, ◌∙◌}
use Rattle.board_step.specs.Applied.{is_reached}
use Rattle.board_step.specs.History.{opening, board_after}
use Rattle.board_step.specs.Step.{spent_of}
use Rattle.part_board.specs.Facing.{numbers_of, own_in}
use Rattle.part_board.specs.Seen.{pass_seen}
use Rattle.part_board.proofs.Faces.{own_stays, entered_own, seen_reached, barred_now}
use Rattle.part_board.proofs.on_live.OnLiveFace.ask.Goals as goal

pub returns-in-Ok-clause-own : goal.returns-in-Ok-clause-own
returns-in-Ok-clause-own g c =
    let f = c.args.self.now in
    ap (λ w. own_in w (pass_seen c.called.new.pass)) c.in-Ok.ensures.caller
    ∙ entered_own f.pass.caller c.args.call.now c.in-Ok.done c.called.new.events.items (pass_seen f.pass) (pass_seen c.called.new.pass) c.in-Ok.ensures.entered

pub returns-in-Err-clause-own : goal.returns-in-Err-clause-own
returns-in-Err-clause-own g c =
    let f = c.args.self.now in
    ap (λ w. own_in w (pass_seen c.called.new.pass)) c.in-Err.ensures.caller
    ∙ own_stays f.pass.caller (pass_seen f.pass) (pass_seen c.called.new.pass) c.in-Err.ensures.learnt.seen c.in-Err.ensures.learnt.own

pub returns-in-Err-clause-barred : goal.returns-in-Err-clause-barred
returns-in-Err-clause-barred g c =
    let f = c.args.self.now in
    let now = pass_seen c.called.new.pass in
    ap (λ sh. spent_of (board_after (opening sh) now) c.args.call.now) c.in-Err.ensures.pass.shape
    ∙ (barred_now f.board.now.shape c.args.call.now c.in-Err.spent now c.in-Err.ensures.barred).0

pub invariant_of-self : goal.invariant_of-self
invariant_of-self g c =
    let f = c.args.self.now in
    let now = pass_seen c.called.new.pass in
    let last = f.stops.last in
    record {
      book = ap numbers_of c.in-Ok.ensures.pass.book;
      shape = c.in-Ok.ensures.pass.shape;
      reached = ap (λ sh. is_reached (board_after (opening sh) now) last) c.in-Ok.ensures.pass.shape
          ∙ seen_reached f.board.now.shape (pass_seen f.pass) now last c.in-Ok.ensures.seen c.in-Ok.ensures.legal
          (ap (λ sh. is_reached (board_after (opening sh) (pass_seen f.pass)) last) (sym f.shape) ∙ f.reached);
    }

pub invariant_of-self-in-Err : goal.invariant_of-self-in-Err
invariant_of-self-in-Err g c =
    let f = c.args.self.now in
    let now = pass_seen c.called.new.pass in
    record {
      book = ap numbers_of c.in-Err.ensures.pass.book;
      shape = c.in-Err.ensures.pass.shape;
      reached = (λ i. is_reached (board_after (opening (c.in-Err.ensures.pass.shape i)) now) (c.stop.ensures.last i))
          ∙ (barred_now f.board.now.shape c.args.call.now c.in-Err.spent now c.in-Err.ensures.barred).1;
    }

pub returns-in-Ok-clause-keeps : goal.returns-in-Ok-clause-keeps
returns-in-Ok-clause-keeps g c = (refl, c.in-Ok.ensures)

pub returns-in-Err-clause-keeps : goal.returns-in-Err-clause-keeps
returns-in-Err-clause-keeps g c = (refl, c.in-Err.ensures)
