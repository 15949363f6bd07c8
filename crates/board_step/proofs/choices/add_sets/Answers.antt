use Rattle.board_step.proofs.Basics.{true≢false, ◌++◌, sym, ap, ◌∙◌, arith}
use Rattle.board_step.proofs.Wished.{somebody, unwished}
use Rattle.board_step.proofs.choices.add_sets.Goals as goal

pub returns-then-not-is_empty : goal.returns-then-not-is_empty
returns-then-not-is_empty c =
    let on = c.if-not-is_empty.true in
    c.put_first.ensures ∙ sym (ap (λ ws. ws ++ c.args.wishes.now) (somebody (record { new = c.args.new.now; stood = c.args.stood.now }) c.join-reached.result c.join-reached.ensures (λ none. true≢false (sym (c.is_empty.ensures.1 none) ∙ (grind arith)))))

pub returns-else-not-is_empty : goal.returns-else-not-is_empty
returns-else-not-is_empty c =
    let off = c.if-not-is_empty.false in
    sym (ap (λ ws. ws ++ c.args.wishes.now) (unwished (record { new = c.args.new.now; stood = c.args.stood.now }) (sym c.join-reached.ensures ∙ c.is_empty.ensures.0 (grind arith))))
