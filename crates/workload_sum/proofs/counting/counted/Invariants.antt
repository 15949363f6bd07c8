use Rattle.std.proofs.Common.{◌≡◌, ◌+◌, ◌≤◌, drop}
use Rattle.workload_sum.specs.Counts.{counted}
use Rattle.workload_sum.proofs.counting.counted.Given as goal

-- those so far, and those to come; no more than the entries so far
abbrev pub invariant-entries : goal.invariant-entries
invariant-entries l = record {
  sum : l.count + counted l.kind (drop l.k l.history) ≡ counted l.fn.kind l.fn.history;
  few : l.count ≤ l.k;
}
