use Rattle.std.proofs.Common.{◌≡◌, false, [], sym, subst}
use Rattle.irq_base.specs.declared.call.Caller.{Caller}
use Rattle.part_board.specs.Seen.{has_made, entries_by}
use Rattle.live_runs.specs.Telling.{told_by}
use Rattle.live_runs.proofs.Rounds.{all_know, none_told, nothing_told}
use Rattle.live_runs.proofs.telling.all_told.Goals as goal
use Rattle.live_runs.proofs.telling.all_told.Goals.{in-Some, in_default}

pub returns-clause-know : goal.returns-clause-know
returns-clause-know c =
    let first = c.in_ok-passes.field-0 in
    let second = c.in_ok-passes-2.field-0 in
    all_know c.args.board.now.shape c.match-note.desk (told_by first.note) (told_by second.note) c.args.passes.items first.passes.items second.passes.items
    c.in_ok-passes.ensures.along c.in_ok-passes-2.ensures.along
    (elim c.match-note.branch [
      | in-Some w ↦ subst (λ d. (o : Caller) → has_made d o ≡ false → entries_by o (told_by second.note) ≡ []) (sym w.desk-is)
          (none_told second.note w.in-Some.note w.learn.new.self w.in-Some.is w.learn.ensures.learnt w.learn.ensures.others)
      | in_default w ↦ λ o never. nothing_told second.note w.in_default.is o
    ])
