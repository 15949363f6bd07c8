use Rattle.std.proofs.Common.{refl, sym, subst}
use Rattle.turn_book.specs.Histories.{IsPrefix}
use Rattle.turn_book.proofs.Lists.{prefix-trans}
use Rattle.part_board.specs.Seen.{pass_seen, note_seen}
use Rattle.live_runs.specs.Telling.{told_by}
use Rattle.live_runs.proofs.telling.next_note.Goals as goal

pub returns-in-Some-clause-told : goal.returns-in-Some-clause-told
returns-in-Some-clause-told c =
    let now = pass_seen c.note-in-Some.new.pass in
    subst (λ o. IsPrefix (told_by o) now) (sym c.in-Some.is)
    (prefix-trans (note_seen c.in-Some.note) (pass_seen c.learn.new.pass) now c.learn.ensures.noted c.note-in-Some.ensures.learnt.seen)

pub returns-in-None-clause-told : goal.returns-in-None-clause-told
returns-in-None-clause-told c = (let now = pass_seen c.note.new.pass in subst (λ o. IsPrefix (told_by o) now) (sym c.in-None.is) (now, refl))
