use Rattle.std.proofs.Common.{sym, ap, ◌∙◌}
use Rattle.book_rows.specs.Posting.{words_of, posts_with}
use Rattle.book_rows.proofs.publishing.posted.Goals as goal

pub make-requires-clause-words : goal.make-requires-clause-words
make-requires-clause-words c = ap (λ l. words_of (posts_with l)) c.in-Ok.ensures.items ∙ sym c.in-Ok-vec.ensures.items
