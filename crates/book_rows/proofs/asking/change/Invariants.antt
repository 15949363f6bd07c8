use Rattle.std.specs.Prelude.{Some}
use Rattle.book_rows.proofs.asking.change.Given as goal

abbrev pub ghosts-enter : goal.ghosts-enter
ghosts-enter a = record { entry = Some a.change }
