use Rattle.script_text.proofs.ScriptsAgain.{script-again}
use Rattle.script_text.proofs.laws.texts_are_read.Goals as goal

pub returns : goal.returns
returns c = script-again
