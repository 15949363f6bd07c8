use Rattle.workload_sum.proofs.Unspent.{summaries_are_one}
use Rattle.workload_sum.proofs.laws.summaries_are_one.Goals as goal

pub returns : goal.returns
returns c = summaries_are_one
