use Rattle.std.proofs.Common.{◌≡◌, ◌++◌}
use Rattle.std.specs.String.{string_bytes}
use Rattle.workload_gen.specs.Workload.{each_below, drawn_line, draws_at}
use Rattle.workload_gen.specs.Text.{lines_text}
use Rattle.workload_gen.proofs.text.push_drawn.Given as goal

-- the lines so far, and where their draws left off
abbrev pub invariant-lines : goal.invariant-lines
invariant-lines l = record {
  text : string_bytes l.text ≡ string_bytes l.fn.text ++ lines_text (each_below (drawn_line l.fn.start l.fn.cpus) l.k);
  draws : l.draws ≡ draws_at l.fn.start l.fn.cpus l.k;
}
