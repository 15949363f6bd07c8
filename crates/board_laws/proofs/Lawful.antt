-- Every legal history keeps the laws.
use Rattle.board_laws.proofs.Basics.{InjectsOnce, InjectsAfterAcknowledges, LegalHistoriesKeepTheLaws}
use Rattle.board_laws.proofs.Points.{at_entries}
use Rattle.board_laws.proofs.PendingHistory.{requests_stay_pending}
use Rattle.board_laws.proofs.EffectHistories.{statuses_without_effect_change_no_request, ignored_masked_is_masked}
use Rattle.board_laws.proofs.ResamplingSteps.{resamples_once}
use Rattle.board_laws.proofs.HoldsCalls.{resample_holds_for_resamplers}
use Rattle.board_laws.proofs.DeassignedSignals.{no_signal_of_deassigned_trigger}
use Rattle.board_laws.proofs.ConservingIrqfds.{one_injection_of_an_irqfd}
use Rattle.board_laws.proofs.ConservingTicks.{ticks_are_conserved, state_is_free_unless_reinjects, ticks_inject_free, other_injections_follow_acknowledges}

pub legal_histories_keep_the_laws : LegalHistoriesKeepTheLaws
legal_histories_keep_the_laws shape history legal = record {
  pending = requests_stay_pending shape history legal;
  effectless = statuses_without_effect_change_no_request shape history legal;
  masked = ignored_masked_is_masked shape history legal;
  resampled = resamples_once shape history legal;
  holds = resample_holds_for_resamplers shape history legal;
  deassigned = no_signal_of_deassigned_trigger shape history legal;
  irqfds = at_entries (λ b e c. InjectsOnce b e c) one_injection_of_an_irqfd shape history legal;
  conserved = ticks_are_conserved shape history legal;
  free = state_is_free_unless_reinjects shape history legal;
  ticks = ticks_inject_free shape history legal;
  injections = at_entries InjectsAfterAcknowledges other_injections_follow_acknowledges shape history legal;
}
