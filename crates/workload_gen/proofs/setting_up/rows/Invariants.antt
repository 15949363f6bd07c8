use Rattle.std.proofs.Common.{◌≡◌}
use Rattle.workload_gen.specs.Workload.{row, each_below}
use Rattle.workload_gen.proofs.setting_up.rows.Given as goal

-- the rows so far
abbrev pub invariant-rows : goal.invariant-rows
invariant-rows l = l.rows ≡ each_below (row l.fn.cpus l.fn.turn) l.j
