-- An irqfd injects once (over this board's own definitions).
use Rattle.std.specs.Prelude.{◌≡◌, ℕ, ◌⊎◌, List, [], ◌∷◌, Some, None}
use Rattle.std.specs.List.{Contains}
use Rattle.std.specs.declared.option.Option.{Option}
use Rattle.irq_base.specs.declared.call.Call.TheVariants.{Assign}
use Rattle.irq_base.specs.declared.event.Event.{Event}
use Rattle.irq_base.specs.declared.event.Event.TheVariants.{Rang, Injected}
use Rattle.irq_base.specs.declared.lists.Entry.{Entry}
use Rattle.irq_base.specs.declared.shape.Shape.{Shape}
use Rattle.irq_base.specs.declared.status.Status.{Status}
use Rattle.board_model.specs.declared.trigger.TriggerWord.{TriggerWord}
use Rattle.board_model.specs.Board.{Board}
use Rattle.board_model.specs.Routing.{routing_of_registry}
use Rattle.board_step.specs.Step.{Step}
use Rattle.board_laws.specs.Points.{AtEachEntry}
use Rattle.board_laws.specs.Rings.{rung_on, IsRefusedAlone}

-- no event, or one injection of this GSI
abbrev pub InjectsAtMostOnce : ℕ → List Event → Type 0
InjectsAtMostOnce gsi events = (events ≡ []) ⊎ ((status : Status) × (events ≡ Injected gsi status ∷ []))

-- what is told where a counter is rung: that it rang, and one injection of its irqfd, if it is the trigger of one
abbrev pub RingsOnce : ℕ → Option TriggerWord → List Event → Type 0
RingsOnce counter None events = events ≡ Rang counter ∷ []
RingsOnce counter (Some trigger) events = (status : Status) × (events ≡ Rang counter ∷ Injected trigger.gsi status ∷ [])

-- what is told where a counter of this board is rung
abbrev pub RingsOnceOn : Board → ℕ → List Event → Type 0
RingsOnceOn b counter events = RingsOnce counter ((routing_of_registry b.registry b.shape.tick).trigger counter) events

-- an irqfd that is made injects at most once; a guest write that rings is refused, or rings and injects at most once; and what
-- rang was rung by the write
pub record InjectsOnce (b : Board) (e : Entry) (c : Board) : Type 0 where
  pub made : (trigger gsi : ℕ) (resample : Option ℕ) → e.call ≡ Assign trigger gsi resample → InjectsAtMostOnce gsi e.events
  pub rung : (counter : ℕ) → rung_on b e.call ≡ Some counter → IsRefusedAlone b e c ⊎ RingsOnceOn b counter e.events
  pub told : (counter : ℕ) → Contains e.events (Rang counter) → (rung_on b e.call ≡ Some counter) × RingsOnceOn b counter e.events

-- so it is in each step
abbrev pub OneInjectionOfAnIrqfd : Type 0
OneInjectionOfAnIrqfd = (b : Board) (e : Entry) (c : Board) → Step b e c → InjectsOnce b e c

-- so it is at each entry of a history
abbrev pub IrqfdsInjectOnce : Shape → List Entry → Type 0
IrqfdsInjectOnce = AtEachEntry (λ b e c. InjectsOnce b e c)
