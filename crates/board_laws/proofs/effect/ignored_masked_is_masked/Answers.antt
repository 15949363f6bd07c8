use Rattle.board_laws.proofs.EffectHistories.{ignored_masked_is_masked}
use Rattle.board_laws.proofs.effect.ignored_masked_is_masked.Goals as goal

pub returns : goal.returns
returns c = ignored_masked_is_masked
