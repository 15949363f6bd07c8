use Rattle.transcript.proofs.TextsAgain.{text-again}
use Rattle.transcript.proofs.laws.texts_are_read.Goals as goal

pub returns : goal.returns
returns c = text-again
