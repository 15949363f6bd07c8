use Rattle.board_laws.proofs.ConservingTicks.{ticks_are_conserved}
use Rattle.board_laws.proofs.ticks.ticks_are_conserved.Goals as goal

pub returns : goal.returns
returns c = ticks_are_conserved
