use Rattle.board_laws.proofs.ResamplingSteps.{resamples_once}
use Rattle.board_laws.proofs.resampling.each_acknowledge_resamples_once.Goals as goal

pub returns : goal.returns
returns c = resamples_once
