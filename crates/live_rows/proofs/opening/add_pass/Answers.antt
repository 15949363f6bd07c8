use Rattle.std.proofs.Common.{All, ◌∷◌, [], sym, subst}
use Rattle.std.proofs.lemmas.List.Elements.{All-append, All-cons, All-nil}
use Rattle.part_board.specs.Seen.{IsPassOf}
use Rattle.live_rows.proofs.opening.add_pass.Goals as goal

pub returns-clause-passes : goal.returns-clause-passes
returns-clause-passes c =
    let P = IsPassOf c.args.board.now in
    let pass = c.in_ok-pass.pass in
    subst (All P) (sym c.in_ok-push.ensures)
    (All-append P c.args.passes.now.items (pass ∷ []) c.requires.passes (All-cons P pass [] c.in_ok-pass.ensures.pass (All-nil P)))
