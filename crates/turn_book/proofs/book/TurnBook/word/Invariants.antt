use Rattle.std.specs.Prelude.{Some}
use Rattle.turn_book.proofs.book.TurnBook.word.Given as goal

abbrev pub ghosts-word_named : goal.ghosts-word_named
ghosts-word_named g a = record { named = Some a.index }
