use Rattle.std.proofs.Common.{◌≡◌, sym, subst}
use Rattle.std.specs.Prelude.{IfSome, IfOk, Result, Ok, Err}
use Rattle.std.specs.declared.option.Option.{Option}
use Rattle.irq_base.specs.declared.lists.Entry.{Entry}
use Rattle.board_step.specs.Publications.{words}
use Rattle.turn_book.specs.Plays.{HasDrafted}
use Rattle.turn_book.specs.Views.{view_of}
use Rattle.part_slots.specs.Running.{IsStep}
use Rattle.part_attempt.proofs.Entries.{follows_named, notes_kept}
use Rattle.part_attempt.proofs.entering.commit_named.Goals as goal

pub commit-requires-clause-drafted : goal.commit-requires-clause-drafted
commit-requires-clause-drafted g c = λ yes. subst (λ (o : Option Entry). IfSome o (λ e. HasDrafted IsStep words c.args.answered.had (view_of c.args.pen.now.seat) e)) (sym c.requires.named) (c.requires.drafted yes)

pub returns-clause-follows : goal.returns-clause-follows
returns-clause-follows g c = follows_named g.N.Entering.entry _ _ _ c.commit.result c.requires.named c.commit.ensures.follows

pub returns-clause-notes : goal.returns-clause-notes
returns-clause-notes g c = notes_kept (view_of c.args.pen.now.seat) (view_of c.commit.new.pen.seat) c.args.publish c.commit.result c.commit.ensures.published c.commit.ensures.words
