use Rattle.std.proofs.Common.{arith}
use Rattle.transcript.proofs.Sets.{given_back}
use Rattle.transcript.proofs.fitting.set_fits.Goals as goal

pub returns : goal.returns
returns c = given_back c.args.set.now c.bits-word.result (omega arith) c.bits-word.ensures.word c.bits-word.ensures.each
