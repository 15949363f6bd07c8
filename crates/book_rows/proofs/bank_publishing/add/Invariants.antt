use Rattle.std.specs.Prelude.{Some}
use Rattle.book_rows.proofs.bank_publishing.add.Given as goal

abbrev pub ghosts-enter : goal.ghosts-enter
ghosts-enter a = record { entry = Some a.change.now }
