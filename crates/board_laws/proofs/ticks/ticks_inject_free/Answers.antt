use Rattle.board_laws.proofs.ConservingTicks.{ticks_inject_free}
use Rattle.board_laws.proofs.ticks.ticks_inject_free.Goals as goal

pub returns : goal.returns
returns c = ticks_inject_free
