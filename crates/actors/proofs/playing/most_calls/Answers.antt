use Rattle.actors.proofs.Bounds.{most_of}
use Rattle.actors.proofs.playing.most_calls.Goals as goal

pub returns : goal.returns
returns c = most_of c.args.script.now c.lines.result c.lines.ensures c.requires
