use Rattle.std.proofs.Common.{◌∙◌}
use Rattle.workload_sum.specs.Counts.{is_of}
use Rattle.workload_sum.proofs.CountLines.{count-next, one-few}
use Rattle.workload_sum.proofs.counting.counted.Goals as goal

pub entries-preserved : goal.entries-preserved
entries-preserved c =
    let e = c.at.result.now in
    record {
      sum = count-next c.args.kind c.args.history.now c.entries.k e c.entries.count c.one_more-count.result c.at.ensures c.one_more-count.ensures ∙ c.entries.invariant.sum;
      few = one-few (is_of c.args.kind e.reply) c.entries.count c.one_more-count.result c.entries.k c.entries.invariant.few c.one_more-count.ensures;
    }
