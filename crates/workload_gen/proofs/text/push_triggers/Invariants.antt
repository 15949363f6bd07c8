use Rattle.std.proofs.Common.{◌≡◌, ◌++◌}
use Rattle.std.specs.String.{string_bytes}
use Rattle.workload_gen.specs.Workload.{each_below, trigger}
use Rattle.workload_gen.specs.Text.{lines_text}
use Rattle.workload_gen.proofs.text.push_triggers.Given as goal

-- the lines so far
abbrev pub invariant-gsis : goal.invariant-gsis
invariant-gsis l = string_bytes l.text ≡ string_bytes l.fn.text ++ lines_text (each_below trigger l.j)
