use Rattle.board_laws.proofs.PendingHistory.{requests_stay_pending}
use Rattle.board_laws.proofs.pending.requests_stay_pending.Goals as goal

pub returns : goal.returns
returns c = requests_stay_pending
