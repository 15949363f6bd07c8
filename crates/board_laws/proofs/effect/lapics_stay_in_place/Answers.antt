use Rattle.board_laws.proofs.EffectHistories.{lapics_stay_in_place}
use Rattle.board_laws.proofs.effect.lapics_stay_in_place.Goals as goal

pub returns : goal.returns
returns c = lapics_stay_in_place
