use Rattle.board_laws.proofs.ConservingTicks.{other_injections_follow_acknowledges}
use Rattle.board_laws.proofs.ticks.other_injections_follow_acknowledges.Goals as goal

pub returns : goal.returns
returns c = other_injections_follow_acknowledges
