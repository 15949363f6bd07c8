use Rattle.write_ring.proofs.Losses.{loses_none}
use Rattle.write_ring.proofs.laws.no_write_is_lost.Goals as goal

pub returns : goal.returns
returns c = loses_none
