use Rattle.std.specs.Prelude.{Some}
use Rattle.turn_book.proofs.book.TurnBook.spare_in.Given as goal

abbrev pub ghosts-spare_named : goal.ghosts-spare_named
ghosts-spare_named g a = record { named = Some a.index }
