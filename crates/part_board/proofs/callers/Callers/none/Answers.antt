use Rattle.part_board.proofs.Sets.{nobody}
use Rattle.part_board.proofs.callers.Callers.none.Goals as goal

pub returns : goal.returns
returns c = nobody c.empty.result c.empty-2.result c.empty.ensures c.empty-2.ensures
