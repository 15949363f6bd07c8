use Rattle.std.proofs.Common.{ap, ◌∙◌}
use Rattle.turn_book.specs.Histories.{is_in}
use Rattle.turn_book.proofs.Lists.{length_zero}
use Rattle.turn_book.proofs.Handing.{none_held}
use Rattle.turn_book.proofs.book.TurnBook.+give_all.Goals as goal

pub returns-in_default-clause-bare : goal.returns-in_default-clause-bare
returns-in_default-clause-bare g t c = λ just. none_held c.args.pen.now.seat.me.0.held (λ q. just q ∙ ap (is_in q) (length_zero c.args.parts.now c.in_default.ensures.cases))
