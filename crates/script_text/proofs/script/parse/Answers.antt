use Rattle.script_text.proofs.ScriptsFit.{script-of-grammar, kept}
use Rattle.script_text.proofs.script.parse.Goals as goal

pub invariant_of-result : goal.invariant_of-result
invariant_of-result c = kept c.args.bytes.now c.in-Ok.draft c.in-Ok.ensures.value c.in-Ok.ensures.index

pub returns-in-Ok-clause-fits : goal.returns-in-Ok-clause-fits
returns-in-Ok-clause-fits c = script-of-grammar c.args.bytes.now _ c.in-Ok.ensures.value
