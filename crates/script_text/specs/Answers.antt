-- What the reading of a script answers.
use Rattle.std.specs.Prelude.{◌≡◌, ℕ, Ok, Err}
use Rattle.std.specs.declared.result.Result.{Result}
use Rattle.irq_base.specs.declared.fault.LineCause.{LineCause}
use Rattle.script_text.specs.declared.script.ScriptFault.{ScriptFault}
use Rattle.script_text.specs.declared.script.ScriptFault.TheVariants.{BadLine, NoMemory}
use Rattle.script_text.specs.Scripts.{Script}

-- the script, or the first bad line with its cause; for want of memory nothing is said
abbrev pub Reads : Result Script ScriptFault → Result Script (ℕ × LineCause) → Type 0
Reads (Ok s) read = read ≡ Ok s
Reads (Err (BadLine line cause)) read = read ≡ Err (line, cause)
Reads (Err NoMemory) read = Unit {0}
