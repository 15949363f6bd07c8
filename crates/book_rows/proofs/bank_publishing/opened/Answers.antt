use Rattle.std.proofs.Common.{length, ap, ◌∙◌}
use Rattle.board_model.proofs.Words.{length-words_of}
use Rattle.book_rows.proofs.bank_publishing.opened.Goals as goal

pub returns-in-Ok-make-clause-width : goal.returns-in-Ok-make-clause-width
returns-in-Ok-make-clause-width c = c.in-Ok-make.ensures.width ∙ ap length c.in-Ok.ensures ∙ length-words_of _
