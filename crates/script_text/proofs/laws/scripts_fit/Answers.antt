use Rattle.script_text.proofs.ScriptsFit.{script-of-grammar}
use Rattle.script_text.proofs.laws.scripts_fit.Goals as goal

pub returns : goal.returns
returns c = script-of-grammar
