use Rattle.std.proofs.Common.{length, ap, ◌∙◌}
use Rattle.board_step.specs.History.{opening}
use Rattle.part_board.proofs.Openings.{turns_many, words_many}
use Rattle.part_board.proofs.opening.begin.Goals as goal

pub returns-in-Ok-clause-turns : goal.returns-in-Ok-clause-turns
returns-in-Ok-clause-turns c = c.in-Ok.ensures.count ∙ ap length c.requires.parts ∙ turns_many c.args.shape.now

pub returns-in-Ok-clause-width : goal.returns-in-Ok-clause-width
returns-in-Ok-clause-width c = c.in-Ok.ensures.width ∙ ap length c.requires.words ∙ words_many c.args.shape.now
