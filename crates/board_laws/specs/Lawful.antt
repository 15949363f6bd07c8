-- All laws of a history together (over this board's own definitions).
use Rattle.std.specs.Prelude.{List}
use Rattle.irq_base.specs.declared.lists.Entry.{Entry}
use Rattle.irq_base.specs.declared.shape.Shape.{Shape}
use Rattle.board_laws.specs.Points.{OfLegalHistories}
use Rattle.board_laws.specs.Pending.{RequestsStayPending}
use Rattle.board_laws.specs.Effect.{StatusesWithoutEffectChangeNoRequest, IgnoredMaskedIsMasked}
use Rattle.board_laws.specs.Resampling.{EachAcknowledgeResamplesOnce}
use Rattle.board_laws.specs.Holds.{ResampleHoldsForResamplers}
use Rattle.board_laws.specs.Deassigned.{NoSignalOfDeassignedTrigger}
use Rattle.board_laws.specs.Irqfds.{IrqfdsInjectOnce}
use Rattle.board_laws.specs.Ticks.{TicksAreConserved, StateIsFreeUnlessReinjects, TicksInjectFree, InjectionsFollowAcknowledges}

-- a history of this shape keeps the laws
pub record KeepsTheLaws (shape : Shape) (history : List Entry) : Type 0 where
  pub pending : RequestsStayPending shape history
  pub effectless : StatusesWithoutEffectChangeNoRequest shape history
  pub masked : IgnoredMaskedIsMasked shape history
  pub resampled : EachAcknowledgeResamplesOnce shape history
  pub holds : ResampleHoldsForResamplers shape history
  pub deassigned : NoSignalOfDeassignedTrigger shape history
  pub irqfds : IrqfdsInjectOnce shape history
  pub conserved : TicksAreConserved shape history
  pub free : StateIsFreeUnlessReinjects shape history
  pub ticks : TicksInjectFree shape history
  pub injections : InjectionsFollowAcknowledges shape history

-- every legal history does
abbrev pub LegalHistoriesKeepTheLaws : Type 0
LegalHistoriesKeepTheLaws = OfLegalHistories (λ shape history. KeepsTheLaws shape history)
