use Rattle.board_laws.proofs.EffectHistories.{statuses_without_effect_change_no_request}
use Rattle.board_laws.proofs.effect.statuses_without_effect_change_no_request.Goals as goal

pub returns : goal.returns
returns c = statuses_without_effect_change_no_request
