use Rattle.board_laws.proofs.DeassignedSignals.{no_signal_of_deassigned_trigger}
use Rattle.board_laws.proofs.deassigned.no_signal_of_deassigned_trigger.Goals as goal

pub returns : goal.returns
returns c = no_signal_of_deassigned_trigger
