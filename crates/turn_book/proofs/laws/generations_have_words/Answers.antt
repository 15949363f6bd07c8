use Rattle.turn_book.proofs.Publishing.{same_words}
use Rattle.turn_book.proofs.laws.generations_have_words.Goals as goal

pub returns : goal.returns
returns g c = let m = g.M.Machine in same_words m.steps m.published m.is_publication m.words_stay m.one_step
