use Rattle.board_laws.proofs.ConservingTicks.{busy_ticks_are_held_back}
use Rattle.board_laws.proofs.ticks.busy_ticks_are_held_back.Goals as goal

pub returns : goal.returns
returns c = busy_ticks_are_held_back
