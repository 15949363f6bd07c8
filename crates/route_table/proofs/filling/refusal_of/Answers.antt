use Rattle.route_table.proofs.Filled.{stands_none, zeros_16, zeros_24, zeros_4096}
use Rattle.route_table.proofs.filling.refusal_of.Goals as goal

pub fill_empty-requires-clause-none : goal.fill_empty-requires-clause-none
fill_empty-requires-clause-none c = stands_none _ _ _ zeros_4096 zeros_16 zeros_24
