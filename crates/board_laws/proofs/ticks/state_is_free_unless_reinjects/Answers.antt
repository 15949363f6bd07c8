use Rattle.board_laws.proofs.ConservingTicks.{state_is_free_unless_reinjects}
use Rattle.board_laws.proofs.ticks.state_is_free_unless_reinjects.Goals as goal

pub returns : goal.returns
returns c = state_is_free_unless_reinjects
