use Rattle.script_text.specs.Asks.{tasks_of}
use Rattle.script_text.proofs.Asked.{left-begins}
use Rattle.script_text.proofs.progress.Progress.start.Goals as goal

pub returns : goal.returns
returns c = λ who lines. left-begins (tasks_of who lines) 0
