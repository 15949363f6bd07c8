-- The text of a generated script is read as that script.
use Rattle.std.proofs.Common.{◌≡◌, ℕ, ◌++◌, Ok}
use Rattle.script_text.specs.Scripts.{script_of}
use Rattle.workload_gen.specs.Workload.{each_below, set_up, drawn_line, workload}
use Rattle.workload_gen.specs.Text.{workload_text}
use Rattle.workload_gen.specs.Laws.{IsInRange}
use Rattle.workload_gen.proofs.Fitting.{workload-fits}
use Rattle.workload_gen.proofs.Headers.{text-again}

pub is-read : (start n c : ℕ) → IsInRange n c → script_of (workload_text start n c) ≡ Ok (workload start n c)
unfolding workload_text workload
is-read start n c is = text-again c (set_up c ++ each_below (drawn_line start c) n) is.cpus.0 is.cpus.1 (workload-fits start n c is)
