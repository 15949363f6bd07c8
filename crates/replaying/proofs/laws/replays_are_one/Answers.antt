use Rattle.replaying.proofs.OneReplay.{replays_are_one}
use Rattle.replaying.proofs.laws.replays_are_one.Goals as goal

pub returns : goal.returns
returns c = replays_are_one
