use Rattle.std.proofs.Common.{sym, ◌∙◌}
use Rattle.live_runs.proofs.Together.{all_of_it, made_these}
use Rattle.live_runs.proofs.running.run_by.Goals as goal

pub returns-clause-run : goal.returns-clause-run
returns-clause-run g c =
    let before = c.in_ok-history.field-0.passes.items in
    let now = c.in_ok-passes-2.passes.items in
    let callers = c.in_ok-history.ensures.callers in
    let made = made_these c.passes_of.new.desk c.all_told.new.desk c.in_ok-passes.passes.items before c.in_ok-passes-2.ensures.made c.in_ok-passes.ensures.made (c.in_ok-passes.ensures.callers ∙ sym callers) in
    (all_of_it c.args.script.now c.args.board.now.shape c.all_told.new.desk before now c.in_ok-history.field-0.history c.in_ok-history.field-0.spent
    c.requires.shape c.in_ok-history.ensures.ran c.in_ok-passes-2.ensures.know callers (λ k d low. (c.in_ok-history.ensures.passes k d low).shape ∙ c.requires.shape) made
    c.legal_histories_keep_the_laws.ensures).0

pub returns-clause-seen : goal.returns-clause-seen
returns-clause-seen g c =
    let before = c.in_ok-history.field-0.passes.items in
    let now = c.in_ok-passes-2.passes.items in
    let callers = c.in_ok-history.ensures.callers in
    let made = made_these c.passes_of.new.desk c.all_told.new.desk c.in_ok-passes.passes.items before c.in_ok-passes-2.ensures.made c.in_ok-passes.ensures.made (c.in_ok-passes.ensures.callers ∙ sym callers) in
    (all_of_it c.args.script.now c.args.board.now.shape c.all_told.new.desk before now c.in_ok-history.field-0.history c.in_ok-history.field-0.spent
    c.requires.shape c.in_ok-history.ensures.ran c.in_ok-passes-2.ensures.know callers (λ k d low. (c.in_ok-history.ensures.passes k d low).shape ∙ c.requires.shape) made
    c.legal_histories_keep_the_laws.ensures).1

pub returns-clause-learnt : goal.returns-clause-learnt
returns-clause-learnt g c =
    let before = c.in_ok-history.field-0.passes.items in
    let now = c.in_ok-passes-2.passes.items in
    let callers = c.in_ok-history.ensures.callers in
    let made = made_these c.passes_of.new.desk c.all_told.new.desk c.in_ok-passes.passes.items before c.in_ok-passes-2.ensures.made c.in_ok-passes.ensures.made (c.in_ok-passes.ensures.callers ∙ sym callers) in
    (all_of_it c.args.script.now c.args.board.now.shape c.all_told.new.desk before now c.in_ok-history.field-0.history c.in_ok-history.field-0.spent
    c.requires.shape c.in_ok-history.ensures.ran c.in_ok-passes-2.ensures.know callers (λ k d low. (c.in_ok-history.ensures.passes k d low).shape ∙ c.requires.shape) made
    c.legal_histories_keep_the_laws.ensures).2

pub returns-clause-made : goal.returns-clause-made
returns-clause-made g c =
    let before = c.in_ok-history.field-0.passes.items in
    let now = c.in_ok-passes-2.passes.items in
    let callers = c.in_ok-history.ensures.callers in
    let made = made_these c.passes_of.new.desk c.all_told.new.desk c.in_ok-passes.passes.items before c.in_ok-passes-2.ensures.made c.in_ok-passes.ensures.made (c.in_ok-passes.ensures.callers ∙ sym callers) in
    (all_of_it c.args.script.now c.args.board.now.shape c.all_told.new.desk before now c.in_ok-history.field-0.history c.in_ok-history.field-0.spent
    c.requires.shape c.in_ok-history.ensures.ran c.in_ok-passes-2.ensures.know callers (λ k d low. (c.in_ok-history.ensures.passes k d low).shape ∙ c.requires.shape) made
    c.legal_histories_keep_the_laws.ensures).3
