-- The word of a route gives the route back.
use Rattle.std.proofs.Common.{◌∙◌}
use Rattle.route_table.proofs.WordLaws.{targets_in-encoded}
use Rattle.route_table.proofs.words.decode.Goals as goal

pub returns-clause-encoded : goal.returns-clause-encoded
returns-clause-encoded c = λ t m route e. c.fields_of.ensures ∙ targets_in-encoded c.args.word t m route e
