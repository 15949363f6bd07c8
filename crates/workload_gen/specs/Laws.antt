-- What holds of every generated script.
use Rattle.std.specs.Prelude.{◌≡◌, ℕ, ◌-◌, ◌^◌, ◌<◌, ◌≤◌, length, Ok}
use Rattle.script_text.specs.Scripts.{script_of}
use Rattle.script_text.specs.Fitting.{IsScript}
use Rattle.workload_gen.specs.Workload.{workload}
use Rattle.workload_gen.specs.Text.{workload_text}
use Rattle.irq_bits.specs.declared.limits.TheConstants.{MAX_CPUS}

-- the numbers of a workload: at most 400,000 lines, 1 to MAX_CPUS processors
pub record IsInRange (n c : ℕ) : Type 0 where
  pub lines : n ≤ 400000
  pub cpus : (1 ≤ c) × (c ≤ MAX_CPUS)

-- it is a script of the grammar, its text is read as that script, and that text is short enough to be read
pub record IsRead (start n c : ℕ) : Type 0 where
  pub script : IsScript (workload start n c)
  pub read : script_of (workload_text start n c) ≡ Ok (workload start n c)
  pub short : length (workload_text start n c) < 2 ^ 32 - 1

abbrev pub WorkloadsAreRead : Type 0
WorkloadsAreRead = (start n c : ℕ) → IsInRange n c → IsRead start n c
