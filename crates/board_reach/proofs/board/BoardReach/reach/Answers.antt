use Rattle.board_reach.proofs.Basics.{sym, ap, ◌∙◌, subst, Shape, Parts, all_parts, parts_of, Board, reach, reach_now, board_of, PartsFit}
use Rattle.board_reach.proofs.Tables.{reach_by_registry}
use Rattle.board_reach.proofs.SeenParts.{parts_fit, reach_uncounted}
use Rattle.board_step.proofs.WholeParts.{parts_make_their_board}
use Rattle.board_reach.proofs.board.BoardReach.reach.Goals as goal

pub reach_in_hand-requires-clause-fits : goal.reach_in_hand-requires-clause-fits
reach_in_hand-requires-clause-fits c =
    let p = c.parts in
    subst (λ (shape : Shape). PartsFit shape p.result.now) (sym c.shape.ensures)
    (parts_fit c.args.self.now p.result.now c.keeps_sound.ensures p.ensures.parts p.ensures.whole p.ensures.fits)

pub returns : goal.returns
returns c =
    let b = c.args.self.now in
    let caller = c.args.caller in
    let call = c.args.call.now in
    let part = c.args.part in
    let bare = board_of b.shape (all_parts b) 0 0 in
    c.reach_in_hand.ensures
    ∙ ap (λ (shape : Shape). reach_now (board_of shape (parts_of c.parts.result.now) 0 0) caller call part) c.shape.ensures
    ∙ ap (λ (q : Parts). reach_now (board_of b.shape q 0 0) caller call part) c.parts.ensures.parts
    ∙ sym (reach_by_registry bare caller call part c.keeps_sound.ensures.registry)
    ∙ sym (reach_uncounted bare b.length b.publications caller call part)
    ∙ ap (λ (b : Board). reach b caller call part) (parts_make_their_board b)
