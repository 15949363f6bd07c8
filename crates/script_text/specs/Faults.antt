-- What the reading of a script tells.
use Rattle.std.specs.Prelude.{◌≡◌, ℕ, Ok, Err}
use Rattle.std.specs.declared.result.Result.{Result}
use Rattle.irq_base.specs.declared.fault.LineCause.{LineCause}
use Rattle.script_text.specs.declared.script.ScriptFault.{ScriptFault}
use Rattle.script_text.specs.declared.script.ScriptFault.TheVariants.{BadLine, NoMemory}
use Rattle.script_text.specs.declared.draft.Draft.{Draft}
use Rattle.script_text.specs.Scripts.{Script}
use Rattle.script_text.specs.Draft.{script_in}

-- a draft of the script, or the first bad line
abbrev pub Tells : Result Draft ScriptFault → Result Script (ℕ × LineCause) → Type 0
Tells (Ok draft) read = read ≡ Ok (script_in draft)
Tells (Err (BadLine line cause)) read = read ≡ Err (line, cause)
Tells (Err NoMemory) read = Unit {0}
