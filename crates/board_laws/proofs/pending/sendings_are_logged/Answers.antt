use Rattle.board_laws.proofs.PendingPlans.{logged}
use Rattle.board_laws.proofs.pending.sendings_are_logged.Goals as goal

pub returns : goal.returns
returns g c = logged
