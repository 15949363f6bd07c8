use Rattle.board_step.proofs.Basics.{◌<◌, sym, ap, ◌∙◌, subst, Lapic, Board, part_of, CodeParts as Parts, apic_in}
use Rattle.board_step.specs.Requests.{requests_in}
use Rattle.board_step.proofs.DueNow.{kept_apic}
use Rattle.board_step.proofs.board.Board.requests.Goals as goal

pub returns : goal.returns
returns c =
    let n = c.args.cpu in
    c.requests_in_hand.ensures
    ∙ ap (λ (p : Parts). requests_in (apic_in p.lapics n)) c.all.ensures
    ∙ ap requests_in (kept_apic c.self.inside n c.self.invariant (subst (λ (b : Board). n < b.shape.cpus) (sym c.self.view_is) c.requires))
    ∙ ap (λ (b : Board). (part_of b (Lapic n)).irr) c.self.view_is
