use Rattle.std.proofs.Common.{◌≡◌, ◌++◌}
use Rattle.std.specs.String.{string_bytes}
use Rattle.workload_gen.specs.Workload.{each_below, enable}
use Rattle.workload_gen.specs.Text.{lines_text}
use Rattle.workload_gen.proofs.text.push_enables.Given as goal

-- the lines so far
abbrev pub invariant-cpus : goal.invariant-cpus
invariant-cpus l = string_bytes l.text ≡ string_bytes l.fn.text ++ lines_text (each_below enable l.n)
