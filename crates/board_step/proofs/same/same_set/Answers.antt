use Rattle.board_step.proofs.Basics.{sym, ◌∙◌, same_members-is}
use Rattle.board_step.proofs.same.same_set.Goals as goal

pub returns : goal.returns
returns c =
    let told = same_members-is c.args.set.now c.args.other.now in
    (λ is. told.0 (sym c.eq.ensures ∙ is), λ same. c.eq.ensures ∙ told.1 same)
