use Rattle.std.specs.Prelude.{Some}
use Rattle.book_rows.proofs.publishing.add_post.Given as goal

abbrev pub ghosts-enter : goal.ghosts-enter
ghosts-enter a = record { entry = Some a.post }
