use Rattle.board_laws.proofs.HoldsCalls.{resample_holds_for_resamplers}
use Rattle.board_laws.proofs.resampling.resample_holds_for_resamplers.Goals as goal

pub returns : goal.returns
returns c = resample_holds_for_resamplers
