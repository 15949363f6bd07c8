use Rattle.board_reach.proofs.Basics.{◌∙◌}
use Rattle.board_reach.proofs.SeenRows.{without_is}
use Rattle.board_reach.proofs.registrations.resamples_without.Goals as goal

pub returns : goal.returns
returns c = c.others_resample.ensures ∙ without_is c.args.rows.now c.args.trigger c.args.gsi c.args.of
