use Rattle.board_step.proofs.Basics.{◌<◌, sym, ap, ◌∙◌, subst, option_map, Lapic, Board, part_of, pair_of, CodeParts as Parts, CodePic as PicPart, apic_in, due_by, due_in, AnswersDue}
use Rattle.board_step.proofs.DueNow.{acks_due, kept_due}
use Rattle.board_step.proofs.board.Board.due.Goals as goal

pub returns : goal.returns
returns c =
    let n = c.args.cpu in
    let told =
    c.due_in_hand.ensures
    ∙ ap (λ (p : Parts). due_in n (apic_in p.lapics n) (option_map (λ (part : PicPart). part.pair) p.pic)) c.all.ensures
    ∙ kept_due c.self.inside n c.self.invariant (subst (λ (b : Board). n < b.shape.cpus) (sym c.self.view_is) c.requires)
    ∙ ap (λ (b : Board). due_by n (part_of b (Lapic n)) (pair_of b.pic)) c.self.view_is in
    λ ws. subst (λ due. AnswersDue c.args.self.now n due ws) (sym told) (acks_due c.args.self.now n ws)
