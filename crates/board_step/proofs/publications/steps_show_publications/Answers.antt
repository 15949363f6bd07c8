use Rattle.board_step.proofs.Publishing.{steps_show_publications}
use Rattle.board_step.proofs.publications.steps_show_publications.Goals as goal

pub returns : goal.returns
returns c = steps_show_publications
