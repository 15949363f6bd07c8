use Rattle.board_step.proofs.Basics.{sym, ap, ◌∙◌, subst, Board, all_parts, Fits, parts_of, chips_of, IsWhole, board_in}
use Rattle.board_raise.specs.declared.parts.Parts as code
use Rattle.board_step.proofs.WholeParts.{board_has_its_parts}
use Rattle.board_step.proofs.OpeningParts.{sound_fits}
use Rattle.board_step.proofs.board.Board.parts.Goals as goal

pub returns-clause-parts : goal.returns-clause-parts
returns-clause-parts c =
    let a = c.self.inside in
    ap parts_of c.all.ensures
    ∙ sym (board_has_its_parts a.shape (parts_of a.rig.parts) a.length a.publications c.self.invariant.whole)
    ∙ ap all_parts c.self.view_is

pub returns-clause-whole : goal.returns-clause-whole
returns-clause-whole c =
    subst (λ (b : Board). IsWhole b.shape (parts_of c.all.result.now)) c.self.view_is (subst (λ (p : code.Parts). IsWhole c.self.inside.shape (parts_of p)) (sym c.all.ensures) c.self.invariant.whole)

pub returns-clause-fits : goal.returns-clause-fits
returns-clause-fits c =
    let a = c.self.inside in
    let same = board_has_its_parts a.shape (parts_of a.rig.parts) a.length a.publications c.self.invariant.whole in
    let fits : Fits a.shape (parts_of a.rig.parts) (chips_of a.rig.parts) = subst (λ q. Fits a.shape q (chips_of a.rig.parts)) same (sound_fits (board_in a) (chips_of a.rig.parts) c.self.invariant.sound c.self.invariant.pins) in
    subst (λ (x : _ × _). Fits x.0 (parts_of x.1) (chips_of x.1)) (λ i. ((c.self.view_is i).shape, sym c.all.ensures i)) fits
