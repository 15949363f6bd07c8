use Rattle.std.specs.Prelude.{Some}
use Rattle.turn_book.proofs.book.TurnBook.split.Given as goal

abbrev pub ghosts-split_for : goal.ghosts-split_for
ghosts-split_for g a = record { named = Some a.caller }
