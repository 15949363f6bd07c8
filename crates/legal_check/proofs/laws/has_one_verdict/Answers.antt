use Rattle.legal_check.proofs.One.{one-verdict}
use Rattle.legal_check.proofs.laws.has_one_verdict.Goals as goal

pub returns : goal.returns
returns c = one-verdict
